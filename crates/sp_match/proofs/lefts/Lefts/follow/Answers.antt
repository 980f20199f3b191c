use Rattle.std.proofs.Common.{◌≡◌, ℕ, ◌-◌, ◌++◌, true, false, List, length, map, take, drop, Result, Ok, Err, sym, ap, subst, ◌∙◌, arith}
use Rattle.std.specs.Prelude.{OnOk, is_ok}
use Rattle.std.specs.List.{All}
use Rattle.std.proofs.lemmas.List.{drop-map, length-drop, take_all}
use Rattle.std.proofs.lemmas.List.Elements.{All-drop}
use Rattle.sp_match.specs.declared.run.Run.{Run}
use Rattle.sp_match.specs.inside.Kept.{kept}
use Rattle.sp_match.specs.inside.Good.{Good}
use Rattle.sp_match.specs.inside.Wanted.{all_as_before}
use Rattle.sp_match.proofs.WantsStay.{followed}
use Rattle.sp_match.proofs.lefts.Lefts.follow.Goals as goal
use Rattle.sp_match.proofs.lefts.Lefts.follow.Goals.{then-same, else-same}

at_ok : {T E : Type 0} (r : Result T E) (P : Type 0) → is_ok r ≡ true → OnOk r P → P
at_ok (Ok x) P is h = h
at_ok (Err e) P is h = absurd cc

-- the runs behind the first ones
behind : (rs : List Run) (n : ℕ) → take (length rs - n) (drop n rs) ≡ drop n rs
behind rs n = take_all (length rs - n) (drop n rs) (omega (arith, length-drop n rs))

pub want_as_before-requires-clause-good : goal.want_as_before-requires-clause-good
want_as_before-requires-clause-good c =
    let rs = c.args.runs.now in
    let n = c.args.count in
    subst (All (Good c.args.plan.now)) (drop-map kept n rs ∙ ap (map kept) (sym (behind rs n))) (All-drop (Good c.args.plan.now) n (map kept rs) c.requires.good)

pub returns : goal.returns
returns c =
    let q = c.args.plan.now in
    let rs = c.args.runs.now in
    let n = c.args.count in
    let was = c.requires.was in
    elim c.if-same.branch [
      | then-same w ↦ λ fresh.
          ap (λ l. l.wants) w.self-is
          ∙ followed q rs n was.0 c.args.self.now.wants c.args.wanted.now w.want_as_before.new.wanted was.1 c.requires.within was.2 c.requires.wanted (c.same.ensures w.if-same.true)
          (at_ok w.want_as_before.result _ (sym w.is_ok-self.ensures.value ∙ sym w.self2-is ∙ fresh) w.want_as_before.ensures ∙ ap (λ (l : List Run). c.args.self.now.wants ++ all_as_before q (map kept l)) (behind rs n))
      | else-same w ↦ λ fresh. absurd (let no : false ≡ true = sym w.if-same.false ∙ sym w.self2-is ∙ fresh in cc)
    ]
