use Rattle.std.proofs.Common.{◌≡◌, ◌++◌}
use Rattle.std.specs.Prelude.{codes}
use Rattle.std.proofs.lemmas.Result.{IfOk-weaker}
use Rattle.sp_emit.proofs.Answering.{answers_map}
use Rattle.sp_emit.proofs.Named.{behind_name, with_name}
use Rattle.sp_emit.proofs.bindings.binding_at.Goals as goal

pub returns-in-Some : goal.returns-in-Some
returns-in-Some c =
    let cut : c.args.text.now ≡ codes " " ++ (c.args.name.now ++ (codes "=" ++ c.in-Some.rest.now)) = c.in-Some.ensures in
    IfOk-weaker _ _ _ (answers_map _ _ _ (λ ns r a. with_name _ _ _ ns r cut a) (λ ns r a. behind_name _ _ _ ns r cut a)) c.places_at.ensures
