-- What stands behind `drill`: two numbers, and what is found behind them.
use Rattle.std.proofs.Common.{◌≡◌, ◌∙◌, ◌-◌, ◌≤◌, ℕ, List, [], ◌∷◌, Option, length, get_or, map, take, drop, sym, ap, arith}
use Rattle.std.specs.Prelude.{option_and_then}
use Rattle.std.proofs.lemmas.List.{take_all}
use Rattle.clap.specs.Walk.{Row, Text}
use Rattle.clap.specs.Simple.{App}
use Rattle.sp_base.specs.Limits.{event_limit}
use Rattle.sp_cli.specs.Numbers.{number}
use Rattle.sp_cli.specs.Options.{found, drill_options}
use Rattle.sp_cli.specs.Commands.{Speed, drill_of, drill_at, speed_in}

-- the words from the third on
abbrev pub behind : {A : Type 0} → List A → List A
behind words = take (length words - 2) (drop 2 words)

-- what the first two words are, and what stands behind them
pub drill-by : {A : Type 0} (text : A → Text) (words : List A) (e s : Option ℕ) {first second : A} {speed : Option Speed}
    → 2 ≤ length words → first ≡ get_or words 0 first → second ≡ get_or words 1 second
    → number 10 1 event_limit (text first) ≡ e → number 10 0 4294967295 (text second) ≡ s
    → option_and_then speed_in (found drill_options (map text (behind words))) ≡ speed → drill_at (map text words) ≡ drill_of e s speed
drill-by text [] e s long first second e_is s_is speed_is = absurd (omega arith)
drill-by text (one ∷ []) e s long first second e_is s_is speed_is = absurd (omega arith)
drill-by text (one ∷ two ∷ rest) e s long first second e_is s_is speed_is =
    let rest_is : rest ≡ behind (one ∷ two ∷ rest) = sym (take_all (length (one ∷ two ∷ rest) - 2) rest (omega arith)) in
    let events = ap (λ t. number 10 1 event_limit (text t)) (sym first) ∙ e_is in
    let seed = ap (λ t. number 10 0 4294967295 (text t)) (sym second) ∙ s_is in
    let speed = ap (λ ws. option_and_then speed_in (found drill_options (map text ws))) rest_is ∙ speed_is in
    λ i. drill_of (events i) (seed i) (speed i)

pub speed-by : (app : App) (words : List Text) {rows : Option (List Row)} {speed : Option Speed} → app ≡ drill_options → found app words ≡ rows
    → option_and_then speed_in rows ≡ speed → option_and_then speed_in (found drill_options words) ≡ speed
speed-by app words same is speed = ap (λ (a : App). option_and_then speed_in (found a words)) (sym same) ∙ ap (option_and_then speed_in) is ∙ speed
