-- Pieces of text that are written one after another.
use Rattle.std.proofs.Common.{◌≡◌, ℕ, ◌+◌, ◌≤◌, List, [], ◌++◌, length, take, drop, Some, sym, ap, ◌∙◌, append_assoc, add-zero, arith}
use Rattle.std.proofs.lemmas.List.{length-append, length-take-le, length-drop, take-append-drop, take_at, drop_at, drop-drop}
use Rattle.report.specs.Writing.{spliced, Puts, Writes}

length_front : (xs p : List ℕ) (at : ℕ) → at + length p ≤ length xs → length (take at xs ++ p) ≡ at + length p
length_front xs p at h = let e = length-take-le at xs (omega arith) in omega (arith, length-append (take at xs) p)

pub length_spliced : (xs p : List ℕ) (at : ℕ) → at + length p ≤ length xs → length (spliced xs at p) ≡ length xs
unfolding spliced
length_spliced xs p at h =
    let e = length-take-le at xs (omega arith) in
    simp (length-append, length-drop) (omega arith)

splice_nothing : (xs : List ℕ) (at : ℕ) → spliced xs at [] ≡ xs
unfolding spliced
splice_nothing xs at = rw add-zero (take-append-drop at xs)

-- a piece behind another is one piece
splice_behind : (xs p q : List ℕ) (at : ℕ) → at + length p ≤ length xs → spliced (spliced xs at p) (at + length p) q ≡ spliced xs at (p ++ q)
unfolding spliced
splice_behind xs p q at h =
    let k : ℕ = at + length p in
    let front : List ℕ = take at xs ++ p in
    let rest : List ℕ = drop k xs in
    let long : length front ≡ k = length_front xs p at h in
    let whole : take at xs ++ (p ++ rest) ≡ front ++ rest = sym (append_assoc (take at xs) p rest) in
    let kept : take k (take at xs ++ (p ++ rest)) ≡ front = ap (take k) whole ∙ take_at front rest k long in
    let gone : drop (k + length q) (take at xs ++ (p ++ rest)) ≡ drop (k + length q) xs =
    ap (drop (k + length q)) whole ∙ sym (drop-drop (length q) k (front ++ rest)) ∙ ap (drop (length q)) (drop_at front rest k long) ∙ drop-drop (length q) k xs in
    let sum : k + length q ≡ at + length (p ++ q) = omega (arith, length-append p q) in
    rw (kept, gone, sum) (simp append_assoc)

pub puts_nothing : (xs : List ℕ) (at : ℕ) → at ≤ length xs → Puts xs at [] xs at
puts_nothing xs at h = record { room = omega arith; leaves = sym (splice_nothing xs at); ends = sym (add-zero at) }

-- a piece leaves the length as it was
pub puts_long : {xs ys p : List ℕ} {at end : ℕ} → Puts xs at p ys end → length ys ≡ length xs
puts_long {xs} {ys} {p} {at} a = ap length a.leaves ∙ length_spliced xs p at a.room

pub puts_then : {xs ys zs p q : List ℕ} {at mid end : ℕ} → Puts xs at p ys mid → Puts ys mid q zs end → Puts xs at (p ++ q) zs end
puts_then {xs} {ys} {zs} {p} {q} {at} {mid} {end} a b =
    let sum = length-append p q in
    let same = puts_long a in
    record { room = omega arith; leaves = cc (splice_behind xs p q at a.room); ends = omega arith }

-- a piece at the front is a whole text
pub puts_front : {xs ys p : List ℕ} {end : ℕ} → Puts xs 0 p ys end → Writes p xs ys (Some end)
unfolding spliced
puts_front {xs} {ys} {p} {end} a =
    let same : end ≡ 0 + length p = a.ends in
    (omega arith, omega arith, rw same a.leaves)
