use Rattle.std.proofs.Common.{arith}
use Rattle.sp_load.specs.Places.{place_of, text_of}
use Rattle.sp_commands.proofs.Graphing.{load_refuses, second_refuses, returns_refuse, texts_refused}
use Rattle.sp_commands.proofs.graphed.graph_task.Goals as goal

pub returns-in-Err-clause-refused : goal.returns-in-Err-clause-refused
returns-in-Err-clause-refused g c =
    load_refuses (g.F.Files.held c.args.files.now) (place_of c.args.asked.place) c.args.asked.second.now c.args.asked.returns.now c.in-Err.refusal _ c.status_of_refusal.ensures c.in-Err.ensures.refused

pub returns-then-second-limit-clause-refused : goal.returns-then-second-limit-clause-refused
returns-then-second-limit-clause-refused g c =
    second_refuses (g.F.Files.held c.args.files.now) (place_of c.args.asked.place) c.args.asked.second.now c.args.asked.returns.now (text_of c.in-Ok.first) c.in-Ok.ensures.text (omega arith)
    c.too_long.result c.too_long.ensures

pub returns-then-returns-limit-clause-refused : goal.returns-then-returns-limit-clause-refused
returns-then-returns-limit-clause-refused g c =
    returns_refuse (g.F.Files.held c.args.files.now) (place_of c.args.asked.place) c.args.asked.second.now c.args.asked.returns.now (text_of c.in-Ok.first) c.in-Ok.ensures.text (omega arith) (omega arith)
    c.too_long-then-returns-limit.result c.too_long-then-returns-limit.ensures

pub returns-clause-refused : goal.returns-clause-refused
returns-clause-refused g c =
    texts_refused (g.F.Files.held c.args.files.now) (place_of c.args.asked.place) c.args.asked.second.now c.args.asked.returns.now (text_of c.in-Ok.first) c.in-Ok.ensures.text (omega arith) (omega arith)
    c.task_of.result c.task_of.ensures.refused
