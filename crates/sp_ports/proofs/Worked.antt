-- Two lines stand in an outlet, neither of which it counts: it did not take the first of their matches.
use Rattle.std.proofs.Common.{◌≡◌, ℕ, ◌+◌, ◌-◌, ◌^◌, ◌<◌, List, [], ◌∷◌, ◌++◌, length, Some, None, sym, ◌∙◌, ap, arith, length-append}
use Rattle.std.specs.Prelude.{max, min}
use Rattle.sp_io.specs.Outside.{Told, Grew, GrewWithin}
use Rattle.sp_plan.specs.declared.found.Match.{Match}
use Rattle.sp_plan.specs.declared.plan.Plan.{Plan}
use Rattle.sp_plan.specs.Lines.{line, text}
use Rattle.sp_ports.specs.Taking.{OutletState, TookFirst, first_line}

none_counted : (n top : ℕ) → 0 < top → 0 ≡ max 0 (min (0 + n) top) → n ≡ 0
none_counted n top some is = omega arith

module _ (q : Plan) (x y : Match) (some : 0 < length (line q y)) where
  abbrev empty : OutletState
  empty = record { held = Some []; taken = 0; faults = 0 }

  abbrev both : OutletState
  both = record { held = Some (line q x ++ line q y); taken = 0; faults = 0 }

  -- behind no match stands at most the line of the first
  too_long : (first others : List Match) (between : Told) → x ∷ y ∷ [] ≡ first ++ others → length first ≡ 0
      → Grew empty.held (text q first) between → GrewWithin between (first_line q others) both.held → ⊥
  too_long (found ∷ first) others between are none grew within = omega arith
  too_long [] [] between are none grew within = cc
  too_long [] (next ∷ others) None are none grew within = absurd grew
  too_long [] (next ∷ others) (Some held) are none grew within =
      let same : next ≡ x = cc in
      let own : length (line q x) ≡ length within.0 + length within.1.0 = ap (λ (m : Match). length (line q m)) (sym same) ∙ ap length within.1.1 ∙ length-append within.0 within.1.0 in
      let whole : length (line q x) + length (line q y) ≡ length held + length within.0 = sym (length-append (line q x) (line q y)) ∙ ap length within.2 ∙ length-append held within.0 in
      let nothing : length held ≡ 0 = ap length grew in
      omega arith

  pub uncounted_lines : TookFirst q (x ∷ y ∷ []) empty both → ⊥
  uncounted_lines f = too_long f.first f.others f.between.held f.are (none_counted (length f.first) (2 ^ 64 - 1) (omega arith) (f.count ∙ f.took.count)) f.took.lines f.front
