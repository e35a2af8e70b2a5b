-- How a line of a script is read: its word, what a word asks for that stands without an argument, and which words take one.
use Rattle.std.specs.Prelude.{ℕ, ◌==◌, Bool, ◌||◌, List, length, codes, Some, None, Option, if◌then◌else◌}
use Rattle.std.specs.Str.{trim, bytes_eq}
use Rattle.std.specs.List.{before_first, after_first}
use Rattle.kiosk.specs.declared.call.Call.TheVariants.{Begin, Withdraw, Open, End, Outcomes}
use Rattle.script.specs.declared.line.Line.{Line}
use Rattle.script.specs.declared.line.Line.TheVariants.{Make, Report}

-- what stands before the comment, which '#' starts
abbrev pub before_comment : List ℕ → List ℕ
before_comment bs = trim (before_first (λ b. b == 35) bs)

-- up to the first space
abbrev pub word : List ℕ → List ℕ
word bs = before_first (λ b. b == 32) (before_comment bs)

-- after it
abbrev pub argument : List ℕ → List ℕ
argument bs = trim (after_first (λ b. b == 32) (before_comment bs))

abbrev pub blank : List ℕ → Bool
blank w = length w == 0

abbrev pub alone : List ℕ → Option Line
alone w =
    if bytes_eq w (codes "begin") then Some (Make Begin) else
    if bytes_eq w (codes "withdraw") then Some (Make Withdraw) else
    if bytes_eq w (codes "open") then Some (Make Open) else
    if bytes_eq w (codes "end") then Some (Make End) else
    if bytes_eq w (codes "outcomes") then Some (Make Outcomes) else
    if bytes_eq w (codes "report") then Some Report else
    None

abbrev pub takes_argument : List ℕ → Bool
takes_argument w =
    bytes_eq w (codes "set")
    || bytes_eq w (codes "lay")
    || bytes_eq w (codes "fact")
    || bytes_eq w (codes "reading")
    || bytes_eq w (codes "ruling")
