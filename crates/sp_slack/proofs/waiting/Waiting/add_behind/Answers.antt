use Rattle.std.proofs.Common.{◌≡◌, ◌+◌, List, [], ◌∷◌, ◌++◌, ℕ, ℤ, pos, ◌≤ℤ◌, true, Some, None, Option, sym, ◌∙◌, ap, subst, refl, to_z, of_z, w64, arith}
use Rattle.std.specs.BTreeMap.{values, insert_entry}
use Rattle.std.specs.Map.{values_of}
use Rattle.std.specs.List.{All}
use Rattle.std.proofs.lemmas.Int.{ints, to_z-of_z}
use Rattle.sp_base.specs.Limits.{number_limit}
use Rattle.sp_plan.specs.Events.{NeverGoesBack}
use Rattle.sp_plan.specs.declared.event.Event.{Event}
use Rattle.sp_slack.specs.HeldBack.{is_before, is_up_to, with_time, put}
use Rattle.sp_slack.proofs.Keeping.{Placed, place_cmp, inserted, put_values, put_placed}
use Rattle.sp_slack.proofs.Merging.{held, out_of_order, rise_of, ordered_put, all_more, same_time}
use Rattle.sp_slack.proofs.waiting.Waiting.add_behind.Goals as goal

-- a time up to the limit is itself as an `i64`
as_kept : (t : ℤ) → pos 0 ≤ℤ t → t ≤ℤ pos number_limit → to_z w64 (of_z w64 t) ≡ t
as_kept t low high = to_z-of_z w64 t (omega (arith, ints, low, high))

pub invariant_of-self-clause-earlier : goal.invariant_of-self-clause-earlier
invariant_of-self-clause-earlier c =
    let s = c.args.self.now in
    subst (λ (l : List ((ℤ × ℕ) × Event)). All (λ x. is_before s.greatest x ≡ true) (values_of l)) (sym c.in-Err.ensures.err) s.earlier

pub invariant_of-self-clause-placed : goal.invariant_of-self-clause-placed
invariant_of-self-clause-placed c =
    let s = c.args.self.now in
    subst (All (Placed s.came)) (sym c.in-Err.ensures.err) s.placed

pub invariant_of-self-clause-rising : goal.invariant_of-self-clause-rising
invariant_of-self-clause-rising c =
    let s = c.args.self.now in
    subst (λ (l : List ((ℤ × ℕ) × Event)). NeverGoesBack (values_of l)) (sym c.in-Err.ensures.err) s.rising

pub invariant_of-self-2-clause-earlier : goal.invariant_of-self-2-clause-earlier
unfolding inserted
invariant_of-self-2-clause-earlier c =
    let s = c.args.self.now in
    let e = c.args.event in
    let time = as_kept e.time c.requires.low c.requires.high in
    let entries = c.in-Ok.ensures.entries ∙ ap (λ (t : ℤ). insert_entry place_cmp s.behind.entries (t, s.came) e) time in
    let events = ap values_of entries ∙ put_values s.came e s.behind.entries s.placed in
    subst (All (λ x. is_before s.greatest x ≡ true)) (sym events) (all_more (is_before s.greatest) (values s.behind) e s.earlier c.requires.late)

pub invariant_of-self-2-clause-placed : goal.invariant_of-self-2-clause-placed
unfolding inserted
invariant_of-self-2-clause-placed c =
    let s = c.args.self.now in
    let e = c.args.event in
    let time = as_kept e.time c.requires.low c.requires.high in
    let entries = c.in-Ok.ensures.entries ∙ ap (λ (t : ℤ). insert_entry place_cmp s.behind.entries (t, s.came) e) time in
    subst (All (Placed (s.came + 1))) (sym entries) (put_placed s.came e s.behind.entries s.placed)

pub invariant_of-self-2-clause-rising : goal.invariant_of-self-2-clause-rising
unfolding inserted
invariant_of-self-2-clause-rising c =
    let s = c.args.self.now in
    let e = c.args.event in
    let time = as_kept e.time c.requires.low c.requires.high in
    let entries = c.in-Ok.ensures.entries ∙ ap (λ (t : ℤ). insert_entry place_cmp s.behind.entries (t, s.came) e) time in
    let events = ap values_of entries ∙ put_values s.came e s.behind.entries s.placed in
    subst NeverGoesBack (sym events) (ordered_put (values s.behind) e s.rising)

pub returns-clause-held : goal.returns-clause-held
unfolding inserted
returns-clause-held c =
    let s = c.args.self.now in
    let e = c.args.event in
    let time = as_kept e.time c.requires.low c.requires.high in
    let entries = c.in-Ok.ensures.entries ∙ ap (λ (t : ℤ). insert_entry place_cmp s.behind.entries (t, s.came) e) time in
    let events = ap values_of entries ∙ put_values s.came e s.behind.entries s.placed in
    ap (held s.line.items) events ∙ out_of_order s.line.items (values s.behind) e (rise_of (values s.behind) s.rising)

pub returns-clause-greatest : goal.returns-clause-greatest
returns-clause-greatest c = sym (same_time c.args.self.now.greatest c.args.event c.requires.late)
