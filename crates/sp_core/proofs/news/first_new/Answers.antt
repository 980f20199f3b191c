use Rattle.std.proofs.Common.{ℕ, Option, get_or, refl, sym, ap, ◌∙◌}
use Rattle.sp_core.specs.declared.news.News.{News}
use Rattle.sp_core.specs.News.{is_from}
use Rattle.sp_core.proofs.Newly.{new_earlier, new_later, new_of_all, new_of_none}
use Rattle.sp_core.proofs.news.first_new.Goals as goal
use Rattle.sp_core.proofs.news.first_new.Goals.{then-is_before, else-is_before}

pub loop-heard-init : goal.loop-heard-init
loop-heard-init c = λ i. new_of_none c.args.news.now c.args.window i

pub loop-heard-preserved : goal.loop-heard-preserved
loop-heard-preserved c = λ i.
    let news = c.args.news.now in
    let n = c.loop-heard.heard-index in
    let window = c.args.window in
    let e : News = record { window = 0; first = 0 } in
    let heard = get_or news n e in
    let so_far = c.loop-heard.invariant i in
    elim c.if-is_before.branch [
      | then-is_before w ↦
          new_earlier news n window i heard e c.loop-heard.first c.loop-heard-test.true refl so_far (sym c.is_before.ensures ∙ w.if-is_before.true)
          ∙ ap (λ (o : Option ℕ). is_from o i) (sym (w.first-is ∙ w.lesser-first.ensures))
      | else-is_before w ↦
          new_later news n window i heard e c.loop-heard.first c.loop-heard-test.true refl so_far (sym c.is_before.ensures ∙ w.if-is_before.false)
          ∙ ap (λ (o : Option ℕ). is_from o i) (sym w.first-is)
    ]

pub returns : goal.returns
returns c = λ i. sym (new_of_all c.args.news.now c.loop-heard.heard-index c.args.window i c.loop-heard-test.false) ∙ c.loop-heard.invariant i
