use Rattle.std.proofs.Common.{List, sym, ap, ◌∙◌}
use Rattle.std.specs.List.{list_any}
use Rattle.sp_core.specs.declared.news.News.{News}
use Rattle.sp_core.specs.News.{covers, is_new}
use Rattle.sp_core.proofs.Newly.{covered, new_pushed}
use Rattle.sp_core.proofs.news.hear.Goals as goal

pub returns-then-is_told : goal.returns-then-is_told
returns-then-is_told c = λ later i.
    let told = sym (ap (list_any (covers c.args.window c.args.first)) c.deref.ensures.value) ∙ sym c.is_told.ensures ∙ c.if-is_told.true in
    covered c.args.news.now.items c.args.window c.args.first later i told

pub returns : goal.returns
returns c = λ later i. ap (λ (ns : List News). is_new ns later i) c.add.ensures ∙ new_pushed c.args.news.now.items _ later i
