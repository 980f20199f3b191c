use Rattle.std.proofs.Common.{◌≡◌, sym, subst}
use Rattle.std.specs.Prelude.{OnOk, OnErr}
use Rattle.sp_piece.specs.Pieced.{Pieced}
use Rattle.sp_core.specs.Returning.{CanComeHome, IsHome}
use Rattle.sp_core.specs.Running.{Running}
use Rattle.sp_core.proofs.machine.Core.come_home.Goals as goal

-- core and piece are the same without the rooms
pub take_home-requires : goal.take_home-requires
take_home-requires c =
    subst (λ (r : Running). CanComeHome r c.shed.new.piece) (sym c.shed.ensures.same)
    (subst (CanComeHome c.args.self.now) (sym c.shed.ensures.piece) c.requires)

pub returns-clause-home : goal.returns-clause-home
returns-clause-home c =
    subst (λ (r : Running). OnOk c.take_home.result (IsHome r c.take_home.new.self c.args.piece)) c.shed.ensures.same
    (subst (λ (p : Pieced). OnOk c.take_home.result (IsHome c.shed.new.self c.take_home.new.self p)) c.shed.ensures.piece c.take_home.ensures.home)

pub returns-clause-err : goal.returns-clause-err
returns-clause-err c = subst (λ (r : Running). OnErr c.take_home.result (c.take_home.new.self ≡ r)) c.shed.ensures.same c.take_home.ensures.err
