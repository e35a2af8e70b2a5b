-- One rule in a round of a closure.
use Rattle.std.proofs.Common.{◌≡◌, ℕ, ◌*◌, ◌%◌, ◌^◌, ◌<◌, sym, ap, ◌∙◌, subst, arith}
use lib.Bits.{bit_or}
use Rattle.std.proofs.Math.Pow.{pow-lt}
use Rattle.rules.specs.declared.rule.Rule.{Rule}
use Rattle.rules.specs.declared.rule.Sign.TheVariants.{Yes, No}
use Rattle.rules.specs.Semantics.{LiteralSet, ◌⊆◌, Holds, body}
use Rattle.rules.specs.Parts.{plus}
use Rattle.rules.proofs.Literals.{⊆_refl, plus_more, plus_has, plus_least}

-- the rule has its head in Z if its body is true in Y
abbrev pub Fires : Rule → LiteralSet → LiteralSet → Type 0
Fires r Y Z = body r ⊆ Y → Holds Z r.sign r.head

-- V is the least set that includes Z and has the head of r if r fires
pub record Fired (r : Rule) (Y Z V : LiteralSet) : Type 0 where
  pub keeps : Z ⊆ V
  pub fires : Fires r Y V
  pub least : (W : LiteralSet) → Z ⊆ W → Fires r Y W → V ⊆ W

fired : {r : Rule} {Y Z V : LiteralSet} → body r ⊆ Y → V ≡ plus Z r.sign r.head → Fired r Y Z V
fired {r} {Y} {Z} b e = subst (Fired r Y Z) (sym e) (record {
  keeps = plus_more Z r.sign r.head;
  fires = λ _. plus_has Z r.sign r.head;
  least = λ W f h. plus_least Z W r.sign r.head f (h b);
})

one : (a : ℕ) → a < 16 → 1 * 2 ^ a % 2 ^ 16 ≡ 2 ^ a
one a l = let p : 2 ^ a < 2 ^ 16 = pow-lt l in omega arith

pub fired_yes : {r : Rule} {Y Z V : LiteralSet} → body r ⊆ Y → r.head < 16 → r.sign ≡ Yes → V ≡ (bit_or Z.0 (1 * 2 ^ r.head % 2 ^ 16), Z.1) → Fired r Y Z V
fired_yes {r} {Y} {Z} b l s e = fired b (e ∙ ap (λ (m : ℕ). (bit_or Z.0 m, Z.1)) (one r.head l) ∙ sym (ap (λ t. plus Z t r.head) s))

pub fired_no : {r : Rule} {Y Z V : LiteralSet} → body r ⊆ Y → r.head < 16 → r.sign ≡ No → V ≡ (Z.0, bit_or Z.1 (1 * 2 ^ r.head % 2 ^ 16)) → Fired r Y Z V
fired_no {r} {Y} {Z} b l s e = fired b (e ∙ ap (λ (m : ℕ). (Z.0, bit_or Z.1 m)) (one r.head l) ∙ sym (ap (λ t. plus Z t r.head) s))

pub unfired : {r : Rule} {Y Z V : LiteralSet} → (body r ⊆ Y → ⊥) → V ≡ Z → Fired r Y Z V
unfired {r} {Y} {Z} f e = subst (Fired r Y Z) (sym e) (record {
  keeps = ⊆_refl Z;
  fires = λ b. absurd (f b);
  least = λ W g _. g;
})
