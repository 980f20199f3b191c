use Rattle.std.proofs.Common.{◌≡◌, ℕ, false, true, map, length, take, refl, sym, ap, subst, ◌∙◌, rules}
use Rattle.std.specs.Arc.{arc_value}
use Rattle.sp_plan.specs.declared.plan.Plan.{Plan}
use Rattle.sp_plan.specs.Windows.{Numbered}
use Rattle.sp_match.specs.public.Laws.{Below}
use Rattle.sp_match.specs.public.Matching.{Matching, runs_of}
use Rattle.sp_match.specs.inside.Kept.{kept, pairs, started}
use Rattle.sp_match.proofs.RunsAreHeld.{held_on, nothing_told}
use Rattle.std.proofs.lemmas.List.{length-map}
use Rattle.sp_match.specs.inside.Good.{Undoes}
use Rattle.sp_match.specs.inside.Going.{IsReady, IsSet}
use Rattle.sp_match.specs.inside.Takers.{AreGrown, IsHeld}
use Rattle.sp_match.specs.inside.Keeping.{IsKept}
use Rattle.sp_match.specs.inside.Handling.{count_after}
use Rattle.sp_match.specs.public.Seen.{seen}
use Rattle.sp_match.proofs.GrownRunIsGood.{looked_for}
use Rattle.sp_match.proofs.MatcherAfterEvent.{all_started_looked, kept_looked, ready}
use Rattle.sp_match.specs.inside.Wanted.{AreLeft}
use Rattle.sp_match.proofs.WantsStay.{left_after}
use Rattle.sp_match.proofs.EventIsOffered.{back, kept_after, offered, wanted_after}
use Rattle.sp_match.proofs.matcher.Matcher.offer_known.Goals as goal

pub handle_all-requires-clause-ready : goal.handle_all-requires-clause-ready
handle_all-requires-clause-ready g c =
    let ks = map kept c.self.inside.runs.items in
    let count = c.self.inside.count in
    subst (λ (q : Plan). IsReady q c.args.number count ks) (sym c.deref-3.ensures)
    (ready (arc_value c.self.inside.plan) c.args.number count ks c.self.invariant.0 (subst (λ (m : Matching). Below c.args.number (runs_of m)) (sym c.self.view_is) c.requires.below))

pub end_event-requires-clause-was : goal.end_event-requires-clause-was
end_event-requires-clause-was g c =
    let q = arc_value c.self.inside.plan in
    let old = map kept c.self.inside.runs.items in
    let new = map kept c.handle_all.new.runs.items in
    let count = c.self.inside.count in
    let told = nothing_told c.handle_all.new.moves.list.items c.handle_all.new.moves.list.len c.is_empty-is_quiet.result c.is_empty-is_quiet.ensures c.handle_all.new.moves.list.ok.0 in
    let many : c.len-open.result ≡ length c.self.inside.runs.items = c.len-open.ensures ∙ c.self.inside.runs.ok.0 in
    let set : IsSet q c.args.number old = (count, ready q c.args.number count old c.self.invariant.0 (subst (λ (m : Matching). Below c.args.number (runs_of m)) (sym c.self.view_is) c.requires.below)) in
    let grown : AreGrown c.deref-3.result.now c.args.number c.len-open.result c.is_empty-is_quiet.result old new = record {
      set = subst (λ (p : Plan). IsSet p c.args.number old) (sym c.deref-3.ensures) set;
      size = length-map c.self.inside.runs.items kept ∙ sym many;
      undoes = subst (λ (n : ℕ). Undoes c.deref-3.result.now c.args.number old (take n new)) (sym many) c.in-Ok.ensures.undoes;
      quiet = λ quiet. c.in-Ok.ensures.quiet (told quiet);
    } in
    (old, grown, held_on c.deref.result.now c.deref-3.result.now c.deref-2.result.now c.self.inside.runs.items c.takers_of-is_told.new.holdings (c.deref.ensures ∙ sym c.deref-3.ensures) c.deref-2.ensures.value c.takers_of-is_told.ensures.held)

pub invariant_of-self : goal.invariant_of-self
invariant_of-self g c =
    let q = arc_value c.self.inside.plan in
    let x : Numbered = (c.args.number, c.args.event.now) in
    let old = map kept c.self.inside.runs.items in
    let settled = map kept c.end_event.new.runs.items in
    let count = c.self.inside.count in
    let after : Matching = record { plan = q; open_runs = map started settled; started = count_after count c.in-Ok.started } in
    let kept_so = subst (λ (n : ℕ). IsKept q n settled) (sym c.count_after-self-inside.ensures)
    (kept_after q c.deref-3.result.now x count old c.in-Ok.started (map kept c.handle_all.new.runs.items) settled (map seen c.handle_all.new.moves.list.items) c.args.self.now after c.deref-3.ensures c.self.view_is c.self.invariant.0
    c.in-Ok.ensures.handled c.end_event.ensures.runs refl (c.end_event.ensures.good c.deref-3.result.now c.in-Ok.ensures.handled.good) c.end_event.ensures.idle) in
    let handled = map kept c.handle_all.new.runs.items in
    let left : AreLeft q settled c.outlive.new.self =
    left_after c.deref-3.result.now q handled settled c.handle_all.new.lefts c.outlive.new.self c.len.result c.len-handled.result c.deref-3.ensures c.in-Ok.ensures.left c.end_event.ensures.runs c.outlive.ensures.fresh c.outlive.ensures.wants
    (c.len.ensures ∙ c.end_event.new.runs.ok.0 ∙ sym (length-map c.end_event.new.runs.items kept)) (c.len-handled.ensures ∙ c.handle_all.new.runs.ok.0 ∙ sym (length-map c.handle_all.new.runs.items kept)) in
    (kept_so, subst (λ (p : Plan). IsHeld p (map pairs settled) c.end_event.new.holdings) c.deref-3.ensures c.end_event.ensures.held, left)

pub returns-in-Ok : goal.returns-in-Ok
returns-in-Ok g c =
    let q = arc_value c.self.inside.plan in
    let x : Numbered = (c.args.number, c.args.event.now) in
    let settled = map kept c.end_event.new.runs.items in
    let after : Matching = record { plan = q; open_runs = map started settled; started = c.count_after-self-inside.result } in
    let count = c.self.inside.count in
    let old = map kept c.self.inside.runs.items in
    let new = map kept c.handle_all.new.runs.items in
    let ts = map seen c.handle_all.new.moves.list.items in
    let m = c.args.self.now in
    let later : after ≡ (record { plan = q; open_runs = map started settled; started = count_after count c.in-Ok.started }) = λ i. record { plan = q; open_runs = map started settled; started = c.count_after-self-inside.ensures i } in
    let o = offered q c.deref-3.result.now x count old c.in-Ok.started new settled ts m after c.deref-3.ensures c.self.view_is c.self.invariant.0 c.in-Ok.ensures.handled c.end_event.ensures.runs later c.requires.below in
    record { stands = o.stands; told = o.tells; wanted = λ asked. wanted_after q c.deref-3.result.now x count old c.in-Ok.started new settled ts m after c.deref-3.ensures c.self.view_is c.self.invariant.0 c.in-Ok.ensures.handled c.end_event.ensures.runs later c.handle_all.new.moves.wanted (c.in-Ok.ensures.wanted asked); below = o.stays_below; plan = search rules; err = search rules; cleared = search rules }

pub invariant_of-self-in-Err : goal.invariant_of-self-in-Err
invariant_of-self-in-Err g c =
    let q = arc_value c.self.inside.plan in
    let old = map kept c.self.inside.runs.items in
    let same : map kept c.undo.new.runs.items ≡ map looked_for old =
    back q c.deref-3.result.now c.args.number c.self.inside.count old (map kept c.handle_all.new.runs.items) (map kept c.undo.new.runs.items) (length c.self.inside.runs.items) c.len-open.result c.deref-3.ensures c.self.invariant.0
    (subst (λ (m : Matching). Below c.args.number (runs_of m)) (sym c.self.view_is) c.requires.below) (c.len-open.ensures ∙ c.self.inside.runs.ok.0) c.in-Err.ensures.undoes c.undo.ensures in (
      subst (IsKept q c.self.inside.count) (sym same) (kept_looked q c.self.inside.count old c.self.invariant.0),
      λ fresh. absurd (let f : false ≡ true = sym c.forget.ensures ∙ fresh in cc),
      λ fresh. absurd (let f : false ≡ true = sym c.forget-in-Err.ensures ∙ fresh in cc),
    )

pub returns-in-Err-clause-err : goal.returns-in-Err-clause-err
returns-in-Err-clause-err g c =
    let q = arc_value c.self.inside.plan in
    let old = map kept c.self.inside.runs.items in
    let same : map kept c.undo.new.runs.items ≡ map looked_for old =
    back q c.deref-3.result.now c.args.number c.self.inside.count old (map kept c.handle_all.new.runs.items) (map kept c.undo.new.runs.items) (length c.self.inside.runs.items) c.len-open.result c.deref-3.ensures c.self.invariant.0
    (subst (λ (m : Matching). Below c.args.number (runs_of m)) (sym c.self.view_is) c.requires.below) (c.len-open.ensures ∙ c.self.inside.runs.ok.0) c.in-Err.ensures.undoes c.undo.ensures in
    (λ i. record { plan = q; open_runs = (ap (map started) same ∙ all_started_looked old) i; started = c.self.inside.count }) ∙ c.self.view_is
