-- A good record's rule is sound; a list that rises, and one more that rises above it.
use Rattle.std.proofs.Common.{◌≡◌, ℕ, ◌-◌, ◌<◌, ◌≤◌, true, List, ◌++◌, length, refl, ⊎_elim, arith}
use Rattle.std.specs.List.{AllByRecursion}
use Rattle.std.proofs.lemmas.List.{get_or_append_left, get_or-append_right, length-append}
use Rattle.std.proofs.ByRecursion.{All-get_or}
use Rattle.std.proofs.lemmas.Bool.{cases_lt}
use Rattle.rules.specs.declared.record.Record.{Record}
use Rattle.rules.specs.declared.rule.Rule.{Rule}
use Rattle.rules.specs.Parts.{no_rule}
use Rattle.rules.specs.Records.{good, ruled}
use Rattle.racks.specs.Meaning.{Sound, Rising}

pub good_sound : (n s i : ℕ) (x : Record) → i < s → good n x ≡ true → Sound n s (ruled i x)
good_sound n s i x h e = (h, grind arith, grind arith, grind arith)

-- lists that rise, the one up to a sheet and the other from it on
pub rising_append : (b : ℕ) (P Q : List Rule) → Rising P → AllByRecursion (λ r. r.sheet ≤ b) P → AllByRecursion (λ r. b ≤ r.sheet) Q → Rising Q → Rising (P ++ Q)
rising_append b P Q p low high q i j ij jl =
    let n = length-append P Q in
    ⊎_elim
    (λ l. let il : i < length P = omega arith in rw (get_or_append_left P Q no_rule i il, get_or_append_left P Q no_rule j l) (p i j ij l))
    (λ r. let e = get_or-append_right P Q (length P) j no_rule refl r in
    let h = All-get_or (λ x. b ≤ x.sheet) Q (j - length P) no_rule (omega arith) high in
    ⊎_elim
    (λ l. let g = All-get_or (λ x. x.sheet ≤ b) P i no_rule l low in rw (get_or_append_left P Q no_rule i l, e) (omega arith))
    (λ s. rw (get_or-append_right P Q (length P) i no_rule refl s, e) (q (i - length P) (j - length P) (omega arith) (omega arith)))
    (cases_lt i (length P)))
    (cases_lt j (length P))
