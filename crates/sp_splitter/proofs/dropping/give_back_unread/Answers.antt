use Rattle.std.proofs.Common.{◌≡◌, None, sym, subst}
use Rattle.sp_piece.specs.Pieced.{Pieced}
use Rattle.sp_group.specs.Machine.{ticket_at, version_at}
use Rattle.sp_splitter.proofs.Clearing.{clears_given, unread_given}
use Rattle.sp_splitter.proofs.dropping.give_back_unread.Goals as goal
use Rattle.sp_splitter.proofs.dropping.give_back_unread.Goals.{in-Differs, in_default}

pub returns-then-differs : goal.returns-then-differs
returns-then-differs g c =
    let gone = subst (λ (p : Pieced). version_at c.args.core.now.machine.versions p.job.version ≡ None) (sym c.start.ensures) c.requires.gone in
    let unread = unread_given c.args.core.now c.give_back.new.self c.start.result c.in_ok-given.given c.known.ensures gone c.in_ok-given.ensures.given in
    record { went = unread.went; emitted = unread.emitted; read = unread.read; next = unread.next; clears = tt; ended = tt }

pub returns-else-differs : goal.returns-else-differs
returns-else-differs g c =
    let gone = subst (λ (p : Pieced). version_at c.args.core.now.machine.versions p.job.version ≡ None) (sym c.start.ensures) c.requires.gone in
    let unread = unread_given c.args.core.now c.give_back.new.self c.start.result c.in_ok-given.given c.known.ensures gone c.in_ok-given.ensures.given in
    elim c.match-matches.branch [
      | in-Differs w ↦ (let yes = w.matches-is in let no = c.if-differs.false in absurd (cc))
      | in_default w ↦
          let clears = clears_given c.args.core.now c.give_back.new.self c.start.result c.in_ok-given.given c.known.ensures gone w.in_default.not-Differs c.in_ok-given.ensures.given in
          record {
            went = unread.went;
            emitted = unread.emitted;
            read = unread.read;
            next = unread.next;
            clears = clears.0;
            ended = subst (λ (p : Pieced). ticket_at c.give_back.new.self.machine.tickets p.job.ticket ≡ None) c.start.ensures clears.1;
          }
    ]
