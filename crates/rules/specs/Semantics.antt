-- What a list of rules means.
--
--   matter          a propositional atom, numbered from 0; n is the number of matters
--   set of matters  a number, with bit a set for matter a
--   literal         a matter (Yes) or its default negation (No)
--   literal set     its yes matters and its no matters; it may hold both signs of one
--   over j i        sheet j overrules sheet i
--   broad, narrow   one notion under two relations: `over`, and `strictly over`
use Rattle.std.specs.Prelude.{◌≡◌, ℕ, suc, ◌-◌, ◌/◌, ◌%◌, ◌^◌, ◌<◌, Bool, true, not, ◌&&◌, ◌⊎◌, List, [], ◌∷◌, filter, ◌==◌}
use mathlib.Core.List.{Memᴰ}
use Rattle.std.specs.List.{AllByRecursion}
use Rattle.rules.specs.declared.rule.Rule.{Rule}
use Rattle.rules.specs.declared.rule.Sign.{Sign}
use Rattle.rules.specs.declared.rule.Sign.TheVariants.{Yes, No}

infix 4 ◌∈◌ ◌⊆◌
-- Literals

-- the matter a is in the set m
abbrev pub Mem : ℕ → ℕ → Type 0
Mem a m = m / 2 ^ a % 2 ≡ 1

-- whether it is
abbrev pub member : ℕ → ℕ → Bool
member a m = m / 2 ^ a % 2 == 1

abbrev pub LiteralSet : Type 0
LiteralSet = ℕ × ℕ

-- X holds the literal of the matter a with this sign
abbrev pub Holds : LiteralSet → Sign → ℕ → Type 0
Holds X Yes a = Mem a X.0
Holds X No a = Mem a X.1

-- each literal of X is one of Y
pub record ◌⊆◌ (X Y : LiteralSet) : Type 0 where
  pub each : (s : Sign) (a : ℕ) → Holds X s a → Holds Y s a

abbrev pub opposite : Sign → Sign
opposite Yes = No
opposite No = Yes

-- Rules

abbrev pub ◌∈◌ : Rule → List Rule → Type 0
r ∈ P = Memᴰ r P

-- the body of a rule is a literal set, and is true in X where X includes it
abbrev pub body : Rule → LiteralSet
body r = (r.yes, r.no)

-- the heads are the same matter with opposite signs
abbrev pub Clash : Rule → Rule → Type 0
Clash s r = (s.head ≡ r.head) × (s.sign ≡ opposite r.sign)

-- the head literal of the rule stands in its own body
abbrev pub Tautology : Rule → Type 0
Tautology r = Holds (body r) r.sign r.head

abbrev pub holds : LiteralSet → Sign → ℕ → Bool
holds X Yes a = X.0 / 2 ^ a % 2 == 1
holds X No a = X.1 / 2 ^ a % 2 == 1

-- the rules with the tautologies struck out
unfoldable pub struck : List Rule → List Rule
struck P = filter (λ r. not (holds (body r) r.sign r.head)) P

-- each head is a matter
abbrev pub Formed : ℕ → List Rule → Type 0
Formed n P = (r : Rule) → r ∈ P → r.head < n

-- Sheets

abbrev pub Overruling : Type 0
Overruling = ℕ → ℕ → Bool

-- of any two sheets, one at least overrules the other
abbrev pub Total : Overruling → Type 0
Total over = (i j : ℕ) → (over i j ≡ true) ⊎ (over j i ≡ true)

-- j overrules i, and i does not overrule j
abbrev pub strictly : Overruling → Overruling
strictly over j i = over j i && not (over i j)

-- Rejection and defaults

-- s rejects r in X: they clash, the body of s is true in X, and the sheet of s overrules that of r
pub record Rejects (over : Overruling) (X : LiteralSet) (s r : Rule) : Type 0 where
  pub clash : Clash s r
  pub body_true : body s ⊆ X
  pub overrules : over s.sheet r.sheet ≡ true

-- r is rejected in X by a rule of P, itself rejected or not
pub record Rejected (P : List Rule) (over : Overruling) (X : LiteralSet) (r : Rule) : Type 0 where
  pub rejecter : Rule
  pub of_the_list : rejecter ∈ P
  pub rejects : Rejects over X rejecter r

-- r is a rule of P that is not rejected in X
pub record Survives (P : List Rule) (over : Overruling) (X : LiteralSet) (r : Rule) : Type 0 where
  pub of_the_list : r ∈ P
  pub unrejected : Rejected P over X r → ⊥

-- r affirms a in X: a is its yes head, and its body is true in X
pub record Affirms (X : LiteralSet) (a : ℕ) (r : Rule) : Type 0 where
  pub sign_is : r.sign ≡ Yes
  pub head_is : r.head ≡ a
  pub body_true : body r ⊆ X

-- "no a" is a default in X: no rule of P, rejected or not, affirms a
pub record Default (P : List Rule) (n : ℕ) (X : LiteralSet) (a : ℕ) : Type 0 where
  pub a_matter : a < n
  pub unaffirmed : (r : Rule) → r ∈ P → Affirms X a r → ⊥

-- Closure and steps

-- Y holds "no a" for each default a, and the head of each of the rules whose body it holds
pub record Closed (rule : Rule → Type 0) (default : ℕ → Type 0) (Y : LiteralSet) : Type 0 where
  pub heads : (r : Rule) → rule r → body r ⊆ Y → Holds Y r.sign r.head
  pub defaults : (a : ℕ) → default a → Holds Y No a

-- Y is the least set closed under some rules and defaults
pub record Closure (rule : Rule → Type 0) (default : ℕ → Type 0) (Y : LiteralSet) : Type 0 where
  pub closed : Closed rule default Y
  pub least : (Z : LiteralSet) → Closed rule default Z → Y ⊆ Z

-- Y is the step from X: the closure of the rules that survive in X and the defaults in X
abbrev pub Step : List Rule → Overruling → ℕ → LiteralSet → LiteralSet → Type 0
Step P over n X Y = Closure (Survives P over X) (Default P n X) Y

abbrev pub BroadStep : List Rule → Overruling → ℕ → LiteralSet → LiteralSet → Type 0
BroadStep P over n X Y = Step P over n X Y

abbrev pub NarrowStep : List Rule → Overruling → ℕ → LiteralSet → LiteralSet → Type 0
NarrowStep P over n X Y = Step P (strictly over) n X Y

-- Outcomes

-- the two-valued literal set with the yes matters M: every other matter below n is a no matter
abbrev pub settled : ℕ → ℕ → LiteralSet
settled n M = (M, 2 ^ n - 1 - M)

-- M is an outcome, a refined dynamic stable model: the broad step from its literal set is that set again
abbrev pub Outcome : List Rule → Overruling → ℕ → ℕ → Type 0
Outcome P over n M = (M < 2 ^ n) × BroadStep P over n (settled n M) (settled n M)

-- each number of the list is less than those behind it
abbrev pub Ascending : List ℕ → Type 0
Ascending [] = Unit {0}
Ascending (x ∷ xs) = AllByRecursion (λ y. x < y) xs × Ascending xs

-- Ms lists the outcomes: each of them once, ascending, and nothing else
pub record Lists (P : List Rule) (over : Overruling) (n : ℕ) (Ms : List ℕ) : Type 0 where
  pub ascending : Ascending Ms
  pub only : (M : ℕ) → Memᴰ M Ms → Outcome P over n M
  pub all : (M : ℕ) → Outcome P over n M → Memᴰ M Ms

-- The well-founded model

-- Z is the narrow step from the broad step from X
pub record Turn (P : List Rule) (over : Overruling) (n : ℕ) (X Z : LiteralSet) : Type 0 where
  pub between : LiteralSet
  pub broad : BroadStep P over n X between
  pub narrow : NarrowStep P over n between Z

-- X is the well-founded model: the least set that a turn leaves as it is
pub record WellFounded (P : List Rule) (over : Overruling) (n : ℕ) (X : LiteralSet) : Type 0 where
  pub stands : Turn P over n X X
  pub least : (Z : LiteralSet) → Turn P over n Z Z → X ⊆ Z

-- X is the set after k turns from the empty set
pub data After (P : List Rule) (over : Overruling) (n : ℕ) : ℕ → LiteralSet → Type 0 where
  start : After P over n 0 (0, 0)
  more : {k : ℕ} {X Z : LiteralSet} → After P over n k X → Turn P over n X Z → After P over n (suc k) Z

-- the turns come to rest at X after k rounds: k is the least number for which the sets after k and after k + 1 turns are equal
pub record Rests (P : List Rule) (over : Overruling) (n k : ℕ) (X : LiteralSet) : Type 0 where
  pub comes : After P over n k X
  pub stays : Turn P over n X X
  pub not_before : (j : ℕ) (Y : LiteralSet) → j < k → After P over n j Y → Turn P over n Y Y → ⊥
