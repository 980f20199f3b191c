use Rattle.std.proofs.Common.{◌≡◌, ℕ, ◌+◌, ◌-◌, [], get_or, drop, Some, None, sym, ◌∙◌, ap, subst, arith}
use Rattle.std.specs.Prelude.{slice_get}
use Rattle.std.specs.List.{filter_map}
use Rattle.std.proofs.lemmas.Option.{slice_get-get_or, slice_get_past}
use Rattle.sp_plan.specs.declared.event.Event.{Event}
use Rattle.sp_graph.specs.Derived.{numbered_event}
use Rattle.sp_graph.proofs.Lasts.{gives_last, gives_nothing}
use Rattle.sp_graph.proofs.bind.last_event.Goals as goal

pub returns-in-Some : goal.returns-in-Some
returns-in-Some c =
    let events = c.args.events.now in
    let numbers = c.args.numbers.now in
    let e = c.in-Some.event.now in
    let i = c.loop-left.left - 1 in
    let told = c.in-Some.ensures.lookup in
    let found : slice_get events c.saturating_sub-place.result ≡ Some e =
    slice_get-get_or events c.saturating_sub-place.result e told.3.0 ∙ ap (λ (x : Event). Some x) (sym told.1) in
    let gives : numbered_event events (get_or numbers i 0) ≡ Some e =
    subst (λ (k : ℕ). slice_get events k ≡ Some e) c.saturating_sub-place.ensures found in
    let behind : filter_map (numbered_event events) (drop (i + 1) numbers) ≡ [] =
    subst (λ (k : ℕ). filter_map (numbered_event events) (drop k numbers) ≡ []) (omega arith) c.loop-left.invariant.none in
    sym (gives_last (numbered_event events) numbers i 0 (omega arith) behind e gives)

pub loop-left-preserved : goal.loop-left-preserved
loop-left-preserved c =
    let events = c.args.events.now in
    let numbers = c.args.numbers.now in
    let i = c.loop-left.left - 1 in
    let missing : slice_get events c.saturating_sub-place.result ≡ None = slice_get_past events c.saturating_sub-place.result c.in_default.ensures.lookup.3 in
    let gives : numbered_event events (get_or numbers i 0) ≡ None =
    subst (λ (k : ℕ). slice_get events k ≡ None) c.saturating_sub-place.ensures missing in
    let behind : filter_map (numbered_event events) (drop (i + 1) numbers) ≡ [] =
    subst (λ (k : ℕ). filter_map (numbered_event events) (drop k numbers) ≡ []) (omega arith) c.loop-left.invariant.none in
    record {
      within = omega arith;
      none = gives_nothing (numbered_event events) numbers i 0 (omega arith) behind gives;
    }
