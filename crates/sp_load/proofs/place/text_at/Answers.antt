use Rattle.std.proofs.Common.{refl, sym, subst, ap, arith}
use Rattle.sp_base.specs.Marks.{without_mark}
use Rattle.sp_base.specs.Limits.{query_limit}
use Rattle.sp_load.specs.Places.{Place, place_of, in_word, in_file, long_word, HasText, IsLonger}
use Rattle.sp_load.proofs.place.text_at.Goals as goal

pub returns-then-text-clause-refused : goal.returns-then-text-clause-refused
returns-then-text-clause-refused g c =
    (refl, subst (IsLonger (g.F.Files.held c.args.files.now) query_limit) (sym (ap place_of c.in-Word.is)) (long_word c.in-Word.text.now (omega arith)))

pub returns-else-text-clause-text : goal.returns-else-text-clause-text
returns-else-text-clause-text g c =
    subst (λ (p : Place). HasText (g.F.Files.held c.args.files.now) p c.in-Word.text.now) (sym (ap place_of c.in-Word.is)) (in_word c.in-Word.text.now (omega arith))

pub returns-in-Ok-clause-text : goal.returns-in-Ok-clause-text
returns-in-Ok-clause-text g c =
    subst (λ (p : Place). HasText (g.F.Files.held c.args.files.now) p (without_mark c.in-Ok.content.items)) (sym (ap place_of c.in-File.is)) (in_file c.in-File.name.now c.in-Ok.content.items c.in-Ok.ensures.holds c.in-Ok.ensures.within)
