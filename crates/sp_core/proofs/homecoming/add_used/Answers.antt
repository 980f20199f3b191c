use Rattle.std.proofs.Common.{◌≡◌, ℕ, List, [], ◌∷◌, take, sym, ap, ◌∙◌, subst, arith}
use Rattle.std.specs.List.{flat_map}
use Rattle.std.specs.List.Sorted.{IsStrictlyIncreasing}
use Rattle.std.proofs.lemmas.List.{append-nil}
use Rattle.sp_base.proofs.RisingLists.{numbers_rise, union_is}
use Rattle.sp_match.specs.declared.moves.Move.{Move}
use Rattle.sp_core.specs.Homecoming.{completions_in, used_told}
use Rattle.sp_core.proofs.Completions.{no_completion, used_more}
use Rattle.sp_core.proofs.homecoming.add_used.Goals.{in-Completed+in_ok-union, in_default}
use Rattle.sp_core.proofs.homecoming.add_used.Goals as goal

pub loop-one-preserved : goal.loop-one-preserved
loop-one-preserved c =
    let i = c.loop-one.one-index in
    let old = c.args.numbers.now.list in
    let now = c.loop-one.numbers.list in
    let so_far = flat_map used_told (completions_in (take i c.args.moves.now)) in
    let rises : IsStrictlyIncreasing old = subst (λ (l : List ℕ). IsStrictlyIncreasing l) c.list.ensures.list c.list.ensures.rising in
    let rising : IsStrictlyIncreasing now = subst (λ (l : List ℕ). IsStrictlyIncreasing l) (sym c.loop-one.invariant) (numbers_rise old so_far rises) in
    elim c.match-one.branch [
      | in-Completed+in_ok-union w ↦
          let uses : flat_map used_told (completions_in (c.one-item.result ∷ [])) ≡ w.in-Completed.used.list =
          ap (λ (m : Move). flat_map used_told (completions_in (m ∷ []))) w.in-Completed.is ∙ append-nil w.in-Completed.used.list in
          let union = union_is c.rising_same.ensures now w.in-Completed.used.list w.union.new.self.list rising w.in_ok-union.ensures.rising w.in_ok-union.ensures.members in
          used_more old c.args.moves.now i _ c.one-item.result now c.match-one.numbers.list w.in-Completed.used.list (omega arith) c.one-item.is c.loop-one.invariant uses (ap (λ v. v.list) w.numbers-is ∙ union)
      | in_default w ↦
          let uses : flat_map used_told (completions_in (c.one-item.result ∷ [])) ≡ [] = ap (flat_map used_told) (no_completion c.one-item.result w.in_default.not-Completed) in
          used_more old c.args.moves.now i _ c.one-item.result now c.match-one.numbers.list [] (omega arith) c.one-item.is c.loop-one.invariant uses (ap (λ v. v.list) w.numbers-is)
    ]
