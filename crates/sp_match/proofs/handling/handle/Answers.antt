use Rattle.std.proofs.Common.{◌≡◌, ℕ, ◌+◌, true, false, List, [], ◌∷◌, ◌++◌, map, length, take, drop, Option, Some, None, refl, sym, ap, subst, ◌∙◌, arith}
use Rattle.std.proofs.lemmas.Grind.{common_steps}
use Rattle.std.specs.List.{All}
use Rattle.std.proofs.lemmas.List.{length-map, take_at}
use Rattle.sp_plan.specs.declared.plan.Plan.{Plan}
use Rattle.sp_plan.specs.Windows.{Numbered}
use Rattle.sp_plan.specs.Runs.{State}
use Rattle.sp_plan.specs.Moves.{Told, OpenedTold}
use Rattle.sp_match.specs.declared.turns.Reception.{Reception}
use Rattle.sp_match.specs.declared.run.Run.{Run}
use Rattle.sp_match.specs.inside.Kept.{Kept, empty, kept, started}
use Rattle.sp_match.specs.inside.Good.{Good, Undoes}
use Rattle.sp_match.specs.inside.Effects.{runs_after_binding, runs_binding_told}
use Rattle.sp_match.specs.inside.Going.{Going, IsReady, standing, starting}
use Rattle.sp_match.specs.inside.Handling.{IsHandled}
use Rattle.sp_match.specs.public.Seen.{seen}
use Rattle.sp_match.proofs.TakenIsNamed.{takes_binding, takes_named}
use Rattle.sp_match.proofs.RunsUndo.{undoes_on}
use Rattle.sp_match.proofs.EventIsHandled.{none_starts, one_starts, started_name}
use Rattle.sp_match.proofs.QuietTurns.{never_empty}
use Rattle.sp_match.proofs.handling.handle.Goals as goal

-- what is known when all runs had their turn, of the vectors of runs before and after
record Turned (q : Plan) (x : Numbered) (count : ℕ) (old new now : List Run) (ts : List Told) (r : Reception) (name : Option ℕ) : Type 0 where
  now_is : now ≡ new
  ready : IsReady q x.0 count (map kept old)
  undoes : Undoes q x.0 (map kept old) (map kept new)
  going : (s : State) → s.open_runs ≡ map started (map kept old) → Going q x s (map kept old) (length (map kept old)) (map kept new) ts r
  name_is : (s : State) → s.open_runs ≡ map started (map kept old) → name ≡ starting q x s
  long : length now ≡ length old

turned : (q : Plan) (x : Numbered) (count size : ℕ) (old lent new tail seen_now : List Run) (ts : List Told) (r : Reception) (name : Option ℕ) → IsReady q x.0 count (map kept old) → lent ≡ old → length new ≡ size → length lent ≡ size
    → seen_now ≡ take size (new ++ tail) → Undoes q x.0 (map kept lent) (map kept new)
    → ((s : State) → s.open_runs ≡ map started (map kept lent) → Going q x s (map kept lent) (length (map kept lent)) (map kept new) ts r)
    → ((s : State) (before : List Kept) (told : List Told) → s.open_runs ≡ map started before → length before ≡ length seen_now → Going q x s before (length before) (map kept seen_now) told r → name ≡ starting q x s)
    → Turned q x count old new (take size (new ++ tail)) ts r name
turned q x count size old lent new tail seen_now ts r name ready same long lent_long seen_is undoes going names =
    let whole : take size (new ++ tail) ≡ new = take_at new tail size long in
    let all_seen : new ≡ seen_now = sym whole ∙ sym seen_is in
    let goes : (s : State) → s.open_runs ≡ map started (map kept old) → Going q x s (map kept old) (length (map kept old)) (map kept new) ts r =
    subst (λ (l : List Run). (s : State) → s.open_runs ≡ map started (map kept l) → Going q x s (map kept l) (length (map kept l)) (map kept new) ts r) same going in
    let sizes : length (map kept old) ≡ length seen_now = length-map old kept ∙ sym (ap length same) ∙ lent_long ∙ sym long ∙ ap length all_seen in
    record {
      now_is = whole;
      ready = ready;
      undoes = subst (λ (l : List Run). Undoes q x.0 (map kept l) (map kept new)) same undoes;
      going = goes;
      name_is = λ s is. names s (map kept old) ts is sizes (subst (λ (l : List Run). Going q x s (map kept old) (length (map kept old)) (map kept l) ts r) all_seen (goes s is));
      long = ap length whole ∙ long ∙ sym lent_long ∙ ap length same;
    }

no_run : (q : Plan) (x : Numbered) (count : ℕ) (old new now : List Run) (ts : List Told) (r : Reception) (name : Option ℕ) → Turned q x count old new now ts r name → name ≡ None
    → IsHandled q x count (map kept old) false (map kept now) ts
no_run q x count old new now ts r name t none =
    subst (λ (l : List Run). IsHandled q x count (map kept old) false (map kept l) ts) (sym t.now_is)
    (none_starts q x count (map kept old) (map kept new) ts r t.ready t.undoes t.going (λ s is. sym none ∙ t.name_is s is))

undone_more : (q : Plan) (x : Numbered) (count : ℕ) (old new now : List Run) (ts : List Told) (r : Reception) (name : Option ℕ) (more : List Kept) → Turned q x count old new now ts r name
    → Undoes q x.0 (map kept now) (take (length now) more) → Undoes q x.0 (map kept old) (take (length old) more)
undone_more q x count old new now ts r name more t u =
    subst (λ (n : ℕ). Undoes q x.0 (map kept old) (take n more)) t.long
    (undoes_on q x.0 (map kept old) (map kept new) (take (length now) more) t.undoes (subst (λ (l : List Run). Undoes q x.0 (map kept l) (take (length now) more)) t.now_is u))

a_run : (q : Plan) (x : Numbered) (count : ℕ) (old new now : List Run) (ts : List Told) (r : Reception) (name : ℕ) (o : Option ℕ) (more : List Kept) (told : List Told) → Turned q x count old new now ts r o → o ≡ Some name
    → more ≡ runs_after_binding q name x (length now) (map kept now ++ empty (count + 1) ∷ []) → told ≡ ts ++ OpenedTold (count + 1) ∷ runs_binding_told q name x (length now) (map kept now ++ empty (count + 1) ∷ [])
    → All (Good q) more → IsHandled q x count (map kept old) true more told
a_run q x count old new now ts r name o more told t some runs_are told_are good =
    let whole : map kept now ≡ map kept new = ap (map kept) t.now_is in
    let size : length now ≡ length (map kept new) = ap length t.now_is ∙ sym (length-map new kept) in
    one_starts q x count (map kept old) (map kept new) ts r t.ready t.undoes t.going name (λ s is. sym some ∙ t.name_is s is) more told
    (runs_are ∙ λ i. runs_after_binding q name x (size i) (whole i ++ empty (count + 1) ∷ [])) (told_are ∙ λ i. ts ++ OpenedTold (count + 1) ∷ runs_binding_told q name x (size i) (whole i ++ empty (count + 1) ∷ [])) good

pub open-requires-clause-named : goal.open-requires-clause-named
open-requires-clause-named c =
    let q = c.args.offer.now.plan.now in
    let x : Numbered = (c.args.offer.now.number, c.args.offer.now.event.now) in
    let t = turned q x c.args.count c.args.runs.now.len c.args.runs.now.items c.deref_mut.result.now c.offer_to_all.new.runs (drop (length c.offer_to_all.new.runs) c.args.runs.now.items) c.deref.result.now
    (map seen c.offer_to_all.new.list.items) c.in_ok-so_far.so_far c.start_name.result c.requires.ready c.deref_mut.ensures.value (c.offer_to_all.auto.runs ∙ c.deref_mut.ensures.len) c.deref_mut.ensures.len
    c.deref.ensures.value c.in_ok-so_far.ensures.undoes c.in_ok-so_far.ensures.going c.start_name.ensures in
    takes_named q [] c.args.offer.now.event.now c.in-Some.name
    (started_name q x (standing c.args.count (map kept c.args.runs.now.items)) c.in-Some.name (sym c.in-Some.is ∙ t.name_is (standing c.args.count (map kept c.args.runs.now.items)) refl))

pub open-requires-clause-binds : goal.open-requires-clause-binds
open-requires-clause-binds c =
    let q = c.args.offer.now.plan.now in
    let x : Numbered = (c.args.offer.now.number, c.args.offer.now.event.now) in
    let t = turned q x c.args.count c.args.runs.now.len c.args.runs.now.items c.deref_mut.result.now c.offer_to_all.new.runs (drop (length c.offer_to_all.new.runs) c.args.runs.now.items) c.deref.result.now
    (map seen c.offer_to_all.new.list.items) c.in_ok-so_far.so_far c.start_name.result c.requires.ready c.deref_mut.ensures.value (c.offer_to_all.auto.runs ∙ c.deref_mut.ensures.len) c.deref_mut.ensures.len
    c.deref.ensures.value c.in_ok-so_far.ensures.undoes c.in_ok-so_far.ensures.going c.start_name.ensures in
    takes_binding q [] c.args.offer.now.event.now c.in-Some.name
    (started_name q x (standing c.args.count (map kept c.args.runs.now.items)) c.in-Some.name (sym c.in-Some.is ∙ t.name_is (standing c.args.count (map kept c.args.runs.now.items)) refl))

pub returns-in_err-open-in-Some-clause-undoes : goal.returns-in_err-open-in-Some-clause-undoes
returns-in_err-open-in-Some-clause-undoes c =
    let q = c.args.offer.now.plan.now in
    let x : Numbered = (c.args.offer.now.number, c.args.offer.now.event.now) in
    let t = turned q x c.args.count c.args.runs.now.len c.args.runs.now.items c.deref_mut.result.now c.offer_to_all.new.runs (drop (length c.offer_to_all.new.runs) c.args.runs.now.items) c.deref.result.now
    (map seen c.offer_to_all.new.list.items) c.in_ok-so_far.so_far c.start_name.result c.requires.ready c.deref_mut.ensures.value (c.offer_to_all.auto.runs ∙ c.deref_mut.ensures.len) c.deref_mut.ensures.len
    c.deref.ensures.value c.in_ok-so_far.ensures.undoes c.in_ok-so_far.ensures.going c.start_name.ensures in
    undone_more q x c.args.count c.args.runs.now.items c.offer_to_all.new.runs (take c.args.runs.now.len (c.offer_to_all.new.runs ++ drop (length c.offer_to_all.new.runs) c.args.runs.now.items))
    (map seen c.offer_to_all.new.list.items) c.in_ok-so_far.so_far c.start_name.result (map kept c.open.new.runs.items) t c.in_err-open-in-Some.ensures.undoes

pub returns-in_ok-open-in-Some : goal.returns-in_ok-open-in-Some
returns-in_ok-open-in-Some c =
    let q = c.args.offer.now.plan.now in
    let x : Numbered = (c.args.offer.now.number, c.args.offer.now.event.now) in
    let now = take c.args.runs.now.len (c.offer_to_all.new.runs ++ drop (length c.offer_to_all.new.runs) c.args.runs.now.items) in
    let ts = map seen c.offer_to_all.new.list.items in
    let t = turned q x c.args.count c.args.runs.now.len c.args.runs.now.items c.deref_mut.result.now c.offer_to_all.new.runs (drop (length c.offer_to_all.new.runs) c.args.runs.now.items) c.deref.result.now
    ts c.in_ok-so_far.so_far c.start_name.result c.requires.ready c.deref_mut.ensures.value (c.offer_to_all.auto.runs ∙ c.deref_mut.ensures.len) c.deref_mut.ensures.len
    c.deref.ensures.value c.in_ok-so_far.ensures.undoes c.in_ok-so_far.ensures.going c.start_name.ensures in
    record {
      handled = a_run q x c.args.count c.args.runs.now.items c.offer_to_all.new.runs now ts c.in_ok-so_far.so_far c.in-Some.name c.start_name.result (map kept c.open.new.runs.items) (map seen c.open.new.list.items) t c.in-Some.is
          c.in_ok-open-in-Some.ensures.runs c.in_ok-open-in-Some.ensures.told c.in_ok-open-in-Some.ensures.good;
      quiet = λ e. absurd (never_empty ts (runs_binding_told q c.in-Some.name x (length now) (map kept now ++ empty (c.args.count + 1) ∷ [])) (OpenedTold (c.args.count + 1)) (sym c.in_ok-open-in-Some.ensures.told ∙ e));
      undoes = undone_more q x c.args.count c.args.runs.now.items c.offer_to_all.new.runs now ts c.in_ok-so_far.so_far c.start_name.result (map kept c.open.new.runs.items) t c.in_ok-open-in-Some.ensures.undoes;
    }

pub returns-in-None-clause-handled : goal.returns-in-None-clause-handled
returns-in-None-clause-handled c =
    let q = c.args.offer.now.plan.now in
    let x : Numbered = (c.args.offer.now.number, c.args.offer.now.event.now) in
    let ts = map seen c.offer_to_all.new.list.items in
    let t = turned q x c.args.count c.args.runs.now.len c.args.runs.now.items c.deref_mut.result.now c.offer_to_all.new.runs (drop (length c.offer_to_all.new.runs) c.args.runs.now.items) c.deref.result.now
    ts c.in_ok-so_far.so_far c.start_name.result c.requires.ready c.deref_mut.ensures.value (c.offer_to_all.auto.runs ∙ c.deref_mut.ensures.len) c.deref_mut.ensures.len
    c.deref.ensures.value c.in_ok-so_far.ensures.undoes c.in_ok-so_far.ensures.going c.start_name.ensures in
    no_run q x c.args.count c.args.runs.now.items c.offer_to_all.new.runs (take c.args.runs.now.len (c.offer_to_all.new.runs ++ drop (length c.offer_to_all.new.runs) c.args.runs.now.items)) ts c.in_ok-so_far.so_far c.start_name.result t c.in-None.is

pub returns-in-None-clause-quiet : goal.returns-in-None-clause-quiet
returns-in-None-clause-quiet c = λ e.
    let new = c.offer_to_all.new.runs in
    ap (map kept) (take_at new (drop (length new) c.args.runs.now.items) c.args.runs.now.len (c.offer_to_all.auto.runs ∙ c.deref_mut.ensures.len)) ∙ c.in_ok-so_far.ensures.quiet e ∙ ap (map kept) c.deref_mut.ensures.value

pub returns-in_err-so_far-clause-undoes : goal.returns-in_err-so_far-clause-undoes
returns-in_err-so_far-clause-undoes c = grind (arith, common_steps)

pub open-requires-clause-good : goal.open-requires-clause-good
open-requires-clause-good c = grind (arith, common_steps)

pub returns-in-None-clause-undoes : goal.returns-in-None-clause-undoes
returns-in-None-clause-undoes c = grind (arith, common_steps)
