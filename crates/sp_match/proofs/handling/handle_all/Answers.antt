use Rattle.std.proofs.Common.{◌≡◌, ℕ, ◌≤◌, List, map, length, take, sym, ap, subst, ◌∙◌, arith}
use Rattle.std.specs.List.{All}
use Rattle.std.proofs.lemmas.List.{length-map, length-take}
use Rattle.sp_plan.specs.declared.plan.Plan.{Plan}
use Rattle.sp_plan.specs.Windows.{Numbered}
use Rattle.sp_plan.specs.Moves.{act}
use Rattle.sp_match.specs.declared.run.Run.{Run}
use Rattle.sp_match.specs.inside.Kept.{Kept, before, kept}
use Rattle.sp_match.specs.inside.Good.{Undoes}
use Rattle.sp_match.specs.inside.Tally.{Tally}
use Rattle.sp_match.specs.inside.Wanted.{HaveWanted, all_as_before, all_left, wanted_all}
use Rattle.sp_match.proofs.RunsAreHeld.{nothing_told}
use Rattle.sp_match.proofs.WantedIsTold.{wanted_is}
use Rattle.sp_match.proofs.handling.handle_all.Goals as goal

-- those that were open are still there
still_there : (q : Plan) (n : ℕ) (old new : List Kept) (k : ℕ) → Undoes q n old (take k new) → length old ≡ k → k ≤ length new
still_there q n old new k undoes size =
    let same : length (take k new) ≡ length old = sym (length-map (take k new) (before n)) ∙ ap length undoes.before ∙ length-map old (before n) in
    omega (arith, same, size, length-take k new)

pub returns-clause-wanted : goal.returns-clause-wanted
returns-clause-wanted g c = λ asked s is count_is.
    let q = c.args.offer.now.plan.now in
    let n = c.args.offer.now.number in
    let x : Numbered = (n, c.args.offer.now.event.now) in
    let rs = c.args.runs.now.items in
    let old = map kept rs in
    let new = map kept c.handle-2.new.runs.items in
    let many : c.len-open.result ≡ length rs = c.len-open.ensures ∙ c.args.runs.now.ok.0 in
    let long : length old ≡ length rs = length-map rs kept in
    let there : map kept c.deref-2.result.now ≡ new = ap (map kept) c.deref-2.ensures.value in
    let undoes = c.in_ok-began.ensures.undoes in
    let list = c.handle-2.new.list in
    let have : HaveWanted q c.len-open.result c.refresh.new.self.wants c.is_empty-quiet.result old (map kept c.deref-2.result.now) = record {
      size = long ∙ sym many;
      within = subst (λ (m : ℕ). m ≤ length (map kept c.deref-2.result.now)) (sym many) (subst (λ (l : List Kept). length rs ≤ length l) (sym there) (still_there q n old new (length rs) undoes long));
      idle = c.requires.ready.idle;
      wants_are = c.in_ok-refresh.ensures ∙ ap (λ (l : List Run). all_as_before q (map kept l)) c.deref.ensures.value;
      quiet_is = λ quiet. there ∙ c.in_ok-began.ensures.quiet (nothing_told list.items list.len c.is_empty-quiet.result c.is_empty-quiet.ensures list.ok.0 quiet);
    } in
    c.in_ok-tell.ensures.told old have ∙ (λ i. wanted_all q (all_left q old) (take (many i) (there i)))
    ∙ wanted_is q n s (act q s x).moves old (take (length rs) new) c.requires.ready.below undoes is
    (subst (λ (m : ℕ). All (Tally n (act q s x).moves) (take m new)) long (c.in_ok-began.ensures.handled.tally s is count_is))
