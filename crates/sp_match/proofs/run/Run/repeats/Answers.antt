use Rattle.std.proofs.Common.{◌≡◌, ℕ, ◌-◌, ◌<◌, List, length, take, Some, None, get_or, sym, ap, ◌∙◌, arith}
use Rattle.std.specs.Option.{option_map}
use Rattle.std.specs.List.{last_or}
use Rattle.std.proofs.lemmas.Bool.Decides.{nat_tests}
use Rattle.std.proofs.lemmas.List.{length-take-le, get_or-take}
use Rattle.std.proofs.lemmas.Option.{slice_get-get_or}
use Rattle.sp_match.specs.inside.Kept.{but_last}
use Rattle.sp_match.proofs.PairsOfRuns.{last_at}
use Rattle.sp_match.proofs.run.Run.repeats.Goals as goal

-- the name before the last
before_last : (bs : List (ℕ × ℕ)) (name : ℕ) → 1 < length bs → (get_or bs (length bs - 2) (0, 0)).0 ≡ name → option_map (λ (pair : ℕ × ℕ). pair.0) (last_or None (but_last bs)) ≡ Some name
before_last bs name some is =
    let front = take (length bs - 1) bs in
    let long : length front ≡ length bs - 1 = length-take-le (length bs - 1) bs (omega arith) in
    let at : length front - 1 ≡ length bs - 2 = omega (arith, long) in
    ap (option_map (λ (pair : ℕ × ℕ). pair.0)) (sym (last_at front) ∙ slice_get-get_or front (length front - 1) (0, 0) (omega (arith, long, some)) ∙ (λ i. Some (get_or front (at i) (0, 0)))
    ∙ ap Some (get_or-take (length bs - 1) bs (length bs - 2) (0, 0) (omega (arith, some)))) ∙ ap Some is

pub returns-then-bound-gt1 : goal.returns-then-bound-gt1
returns-then-bound-gt1 c = λ so.
    let bs = c.args.self.now.bound.items in
    let is : (get_or c.as_slice-bound.result.now (length c.as_slice-bound.result.now - 2) (0, 0)).0 ≡ c.args.name = grind (arith, nat_tests) in
    before_last bs c.args.name (omega (arith, c.if-bound-gt1.true, ap length c.as_slice-bound.ensures.value)) (sym (ap (λ (l : List (ℕ × ℕ)). (get_or l (length l - 2) (0, 0)).0) c.as_slice-bound.ensures.value) ∙ is)
