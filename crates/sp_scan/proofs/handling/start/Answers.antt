use Rattle.std.proofs.Common.{◌≡◌, ◌+◌, ◌&&◌, ◌∷◌, [], Bool, true, false, length, List, refl, sym, ap, subst, ◌∙◌, arith}
use Rattle.std.proofs.lemmas.List.{append-nil}
use Rattle.sp_plan.specs.Runs.{Pair, Run, grown}
use Rattle.sp_scan.specs.declared.run.Run as own
use Rattle.sp_scan.specs.inside.Offer.{numbered}
use Rattle.sp_scan.specs.inside.Shown.{ShowsTurns}
use Rattle.sp_scan.specs.inside.Starting.{has_room}
use Rattle.sp_scan.proofs.TurnsShow.{may_told, shows_none, shows_started}
use Rattle.sp_scan.proofs.handling.start.Goals as goal
use Rattle.sp_scan.proofs.handling.start.Goals.{then-not-free-via-then-not-free, then-not-free-via-else-not-free+then-not-has_room}

and_false : (b : Bool) → (b && false) ≡ false
and_false true = refl
and_false false = refl

pub returns-then-not-free : goal.returns-then-not-free
returns-then-not-free c = λ h s free_is shown.
    let q = c.args.offer.now.plan.now in
    let x = numbered c.args.offer.now in
    let t = c.args.turns.now in
    let next = c.args.offer.now.number + 1 in
    let told = may_told q next x s h t.runs.items t.found.items t.taken.list c.args.free in
    elim c.then-not-free.branch [
      | then-not-free-via-then-not-free w ↦
          let room = has_room q.select t.taken.list (length t.runs.items) x.0 in
          shows_none q next x s h t shown (told room shown free_is refl ∙ ap (λ b. b && room) w.if-not-free.true)
      | then-not-free-via-else-not-free+then-not-has_room w ↦
          shows_none q next x s h t shown (told w.has_room.result shown free_is w.has_room.ensures ∙ ap (λ b. c.args.free && b) w.if-not-has_room.true ∙ and_false c.args.free)
    ]

pub returns-in_ok-settle-in-Some : goal.returns-in_ok-settle-in-Some
returns-in_ok-settle-in-Some c = λ h s free_is shown.
    let q = c.args.offer.now.plan.now in
    let x = numbered c.args.offer.now in
    let t = c.args.turns.now in
    let next = c.args.offer.now.number + 1 in
    let may = may_told q next x s h t.runs.items t.found.items t.taken.list c.args.free c.has_room.result shown free_is c.has_room.ensures ∙ (λ i. c.if-not-free.false i && c.if-not-has_room.false i) in
    let pair : Pair = record { name = c.in-Some.name; number = x.0; event = x.1 } in
    let items = c.in_ok-push-in-Some.ensures.items in
    let run = c.in_ok-run-in-Some.run' in
    let turned = c.in_ok-settle-in-Some.ensures t.runs.items [] run items (omega (arith, c.len-at.ensures, t.runs.ok.0)) c.in_ok-run-in-Some.ensures.ready in
    let still = turned.shown h (s.started + 1) shown in
    let kept : turned.still ≡ c.settle.new.self.runs.items = sym (turned.items_are ∙ append-nil turned.still) in
    shows_started q next x s h c.settle.new.self c.in-Some.name may (sym c.begins.ensures ∙ c.in-Some.is)
    (subst (λ (l : List own.Run). ShowsTurns q next (grown q h (s.started + 1, pair ∷ [])) l c.settle.new.self.found.items c.settle.new.self.taken.list) kept (subst (λ (r : Run). ShowsTurns q next (grown q h (s.started + 1, r)) turned.still c.settle.new.self.found.items c.settle.new.self.taken.list) c.in_ok-run-in-Some.ensures.pairs still))
