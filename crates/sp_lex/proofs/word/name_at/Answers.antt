use Rattle.sp_lex.proofs.Front as l
use Rattle.sp_lex.proofs.word.name_at.Goals as goal

pub returns-in-Some : goal.returns-in-Some
returns-in-Some c = l.word_reads _ _ _ _ c.requires c.name_bytes.ensures.cut c.name_bytes.ensures.run c.in-Some.ensures

pub returns-in_ok-name_text-in-None : goal.returns-in_ok-name_text-in-None
returns-in_ok-name_text-in-None c = l.own_reads _ _ _ _ c.requires c.name_bytes.ensures.cut c.name_bytes.ensures.run c.in-None.ensures c.in_ok-name_text-in-None.ensures
