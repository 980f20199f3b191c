use Rattle.std.proofs.Common.{◌∙◌, ℕ, List, refl, subst}
use Rattle.sp_io.specs.Outside.{Grew, GrewWithin}
use Rattle.sp_commands.specs.Drill.{written, failed, no_memory}
use Rattle.sp_top.proofs.drill.write_summary.Goals as goal

pub returns-in_default : goal.returns-in_default
returns-in_default g c = no_memory refl

pub returns-in-Ok-write_all : goal.returns-in-Ok-write_all
returns-in-Ok-write_all g c =
    let old = g.K.Sink.state c.args.out.now in
    let new = g.K.Sink.state c.write_all.new.self in
    written (subst (λ (l : List ℕ). Grew old.held l new.held) (c.as_bytes.ensures.value ∙ c.in-Ok.ensures) c.in-Ok-write_all.ensures.ok) c.in-Ok-write_all.ensures.no_fault

pub returns : goal.returns
returns g c =
    let old = g.K.Sink.state c.args.out.now in
    let new = g.K.Sink.state c.write_all.new.self in
    failed (subst (λ (l : List ℕ). GrewWithin old.held l new.held) (c.as_bytes.ensures.value ∙ c.in-Ok.ensures) c.in-Err.ensures.err) c.in-Err.ensures.fault
