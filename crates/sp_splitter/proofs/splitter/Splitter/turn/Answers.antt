use Rattle.std.proofs.Common.{◌≡◌, ◌⊎◌, inl, inr, ℕ, ◌+◌, ◌≤◌, List, [], ◌++◌, length, subst, sym, ◌∙◌, ap, arith}
use Rattle.sp_chance.specs.Shares.{share_of}
use Rattle.sp_plan.specs.declared.found.Match.{Match}
use Rattle.sp_plan.specs.declared.plan.Plan.{Plan}
use Rattle.sp_piece.specs.declared.job.Job.{Job}
use Rattle.sp_core.specs.Running.{Running}
use Rattle.sp_splitter.specs.Gathering.{Gathered}
use Rattle.sp_splitter.specs.Lending.{longest_lease}
use Rattle.sp_splitter.specs.Splitting.{IsBelowKept}
use Rattle.sp_splitter.specs.Stages.{ReadOfCollected, Went, matches_of}
use Rattle.sp_splitter.specs.Turning.{SentOut}
use Rattle.sp_splitter.proofs.Below.{below_later}
use Rattle.sp_splitter.proofs.SentNone.{sends_gathered, sends_then, sends_tidied}
use Rattle.sp_splitter.proofs.Stepping.{goes_then, went_then}
use Rattle.sp_splitter.proofs.splitter.Splitter.turn.Goals as goal

pub returns-in_err-read-clause-went : goal.returns-in_err-read-clause-went
returns-in_err-read-clause-went g c = c.gather.ensures.went c.args.self.now.instances (longest_lease c.args.self.now.core.plan c.args.self.now.batch)

pub returns-in_err-finished-clause-went : goal.returns-in_err-finished-clause-went
returns-in_err-finished-clause-went g c =
    let n = c.args.self.now.instances in
    let most = longest_lease c.args.self.now.core.plan c.args.self.now.batch in
    went_then n most c.args.self.now.core c.gather.new.core c.tidy.new.core (c.in_ok-read.ensures.goes n) (c.gather.ensures.went n most) (c.tidy.ensures.went n most)

pub returns-in_err-self-clause-went : goal.returns-in_err-self-clause-went
returns-in_err-self-clause-went g c =
    let n = c.args.self.now.instances in
    let most = longest_lease c.args.self.now.core.plan c.args.self.now.batch in
    let is : c.longest_lease-most.result ≡ most = c.longest_lease-most.ensures.longest ∙ ap (λ (q : Plan). longest_lease q c.args.self.now.batch) (c.plan.ensures.plan ∙ ap (λ (z : Running). z.plan) c.core.ensures) in
    went_then n most c.args.self.now.core c.gather.new.core c.guess_and_send.new.core (c.in_ok-read.ensures.goes n) (c.gather.ensures.went n most)
    (went_then n most c.gather.new.core c.tidy.new.core c.guess_and_send.new.core (c.in_ok-finished.ensures.goes n) (c.tidy.ensures.went n most) (subst (λ (m : ℕ). Went n m c.tidy.new.core c.guess_and_send.new.core) is c.guess_and_send.ensures.went))

pub post_kept-requires-clause-last : goal.post_kept-requires-clause-last
post_kept-requires-clause-last g c κs within =
    let n = c.args.self.now.instances in
    let most = longest_lease c.args.self.now.core.plan c.args.self.now.batch in
    let tidied = went_then n most c.args.self.now.core c.gather.new.core c.tidy.new.core (c.in_ok-read.ensures.goes n) (c.gather.ensures.went n most) (c.tidy.ensures.went n most) in
    let here = subst (λ (z : ℕ). IsBelowKept z c.args.self.now.kept.items c.args.self.now.core.machine.next_ticket) (sym c.gather.ensures.by.last) c.requires.last in
    let later = below_later c.gather.new.by.last c.args.self.now.kept.items c.args.self.now.core.machine.next_ticket c.tidy.new.core.machine.next_ticket tidied.tickets here in
    (c.guess_and_send.new.core.machine.next_ticket, c.guess_and_send.ensures.rising c.gather.new.by.last later)

pub returns-in_err-post_kept-clause-went : goal.returns-in_err-post_kept-clause-went
returns-in_err-post_kept-clause-went g c =
    let n = c.args.self.now.instances in
    let most = longest_lease c.args.self.now.core.plan c.args.self.now.batch in
    let is : c.longest_lease-most.result ≡ most = c.longest_lease-most.ensures.longest ∙ ap (λ (q : Plan). longest_lease q c.args.self.now.batch) (c.plan.ensures.plan ∙ ap (λ (z : Running). z.plan) c.core.ensures) in
    went_then n most c.args.self.now.core c.gather.new.core c.guess_and_send.new.core (c.in_ok-read.ensures.goes n) (c.gather.ensures.went n most)
    (went_then n most c.gather.new.core c.tidy.new.core c.guess_and_send.new.core (c.in_ok-finished.ensures.goes n) (c.tidy.ensures.went n most) (subst (λ (m : ℕ). Went n m c.tidy.new.core c.guess_and_send.new.core) is c.guess_and_send.ensures.went))

pub returns-in_err-post_kept-clause-read : goal.returns-in_err-post_kept-clause-read
returns-in_err-post_kept-clause-read g c = let same = ap length c.post_kept.ensures.got in omega arith

pub returns-clause-read : goal.returns-clause-read
returns-clause-read g c = let same = ap length c.post_kept.ensures.got in omega arith

pub returns-clause-went : goal.returns-clause-went
returns-clause-went g c =
    let n = c.args.self.now.instances in
    let most = longest_lease c.args.self.now.core.plan c.args.self.now.batch in
    let is : c.longest_lease-most.result ≡ most = c.longest_lease-most.ensures.longest ∙ ap (λ (q : Plan). longest_lease q c.args.self.now.batch) (c.plan.ensures.plan ∙ ap (λ (z : Running). z.plan) c.core.ensures) in
    went_then n most c.args.self.now.core c.gather.new.core c.guess_and_send.new.core (c.in_ok-read.ensures.goes n) (c.gather.ensures.went n most)
    (went_then n most c.gather.new.core c.tidy.new.core c.guess_and_send.new.core (c.in_ok-finished.ensures.goes n) (c.tidy.ensures.went n most) (subst (λ (m : ℕ). Went n m c.tidy.new.core c.guess_and_send.new.core) is c.guess_and_send.ensures.went))

all_posted : (kept : List Job) (waiting room places : ℕ) → room ≡ places → (kept ≡ []) ⊎ (room ≤ waiting) → (kept ≡ []) ⊎ (places ≤ waiting)
all_posted kept waiting room places same (inl none) = inl none
all_posted kept waiting room places same (inr full) = inr (omega arith)

pub returns-clause-turned : goal.returns-clause-turned
returns-clause-turned g c =
    let n = c.args.self.now.instances in
    let most = longest_lease c.args.self.now.core.plan c.args.self.now.batch in
    let is : c.longest_lease-most.result ≡ most = c.longest_lease-most.ensures.longest ∙ ap (λ (q : Plan). longest_lease q c.args.self.now.batch) (c.plan.ensures.plan ∙ ap (λ (z : Running). z.plan) c.core.ensures) in
    let tidied = goes_then n c.args.self.now.core c.gather.new.core c.tidy.new.core (c.in_ok-read.ensures.goes n) (c.in_ok-finished.ensures.goes n) in
    let finished = c.in_ok-finished.finished.items in
    let emitted : c.tidy.new.core.machine.emitted ≡ c.args.self.now.core.machine.emitted ++ matches_of finished =
    c.in_ok-finished.ensures.emitted ∙ ap (λ (z : List Match). z ++ matches_of finished) c.gather.ensures.emitted in
    let gathered = c.in_ok-read.ensures.gathered in
    let taught_then = (goal.Predictor-dyn g (c.deref_box_mut-1.result.now.0, c.gather.new.predictor)).taught c.gather.new.predictor in
    let came : ReadOfCollected c.args.self.now.core c.guess_and_send.new.core c.args.by.now c.gather.new.by = omega arith in
    record {
      emitted = c.guess_and_send.ensures.emitted ∙ emitted;
      settled = c.in_ok-self.ensures.settled;
      lent = c.in_ok-self.ensures.lent;
      posted = all_posted c.post_kept.new.kept.items c.post_kept.new.by.waiting c.post_kept.new.by.room (n + 1)
          (c.post_kept.ensures.room ∙ c.gather.ensures.by.room ∙ c.requires.room) c.in_ok-post_kept.ensures.all;
      wide = c.in_ok-self.ensures.wide;
      guessed = c.in_ok-self.ensures.guessed;
      home = c.gather.new.core;
      collected = c.gather.new.by;
      gathered =
          subst (λ d. Gathered ((goal.Predictor-dyn g d).taught d.1) taught_then c.args.self.now.core c.gather.new.core c.args.by.now c.gather.new.by)
          c.deref_box_mut-1.ensures.value.1 gathered;
      planted = c.tidy.new.core;
      tidied = c.in_ok-finished.ensures.tidied;
      sends_none =
          sends_then c.args.self.now.core c.gather.new.core c.tidy.new.core
          (sends_gathered c.args.self.now.core c.gather.new.core gathered.count gathered.pairs gathered.back)
          (sends_tidied c.gather.new.core c.tidy.new.core finished c.in_ok-finished.ensures.tidied);
      went = went_then n most c.args.self.now.core c.gather.new.core c.tidy.new.core (c.in_ok-read.ensures.goes n) (c.gather.ensures.went n most) (c.tidy.ensures.went n most);
      finished_then = emitted;
      settled_then = c.in_ok-finished.ensures.settled;
      sendable = c.guess_and_send.new.kept.items;
      sent =
          subst (λ (m : ℕ). SentOut (share_of c.in_ok-self.field-0) n m c.tidy.new.core c.guess_and_send.new.core c.args.self.now.kept.items c.guess_and_send.new.kept.items) is
          c.in_ok-self.ensures.sent;
      came = came;
      each = c.in_ok-post_kept.ensures.each;
      goes = goes_then n c.args.self.now.core c.tidy.new.core c.guess_and_send.new.core tidied c.in_ok-self.ensures.goes;
    }

pub returns-clause-last : goal.returns-clause-last
returns-clause-last g c =
    let n = c.args.self.now.instances in
    let most = longest_lease c.args.self.now.core.plan c.args.self.now.batch in
    let tidied = went_then n most c.args.self.now.core c.gather.new.core c.tidy.new.core (c.in_ok-read.ensures.goes n) (c.gather.ensures.went n most) (c.tidy.ensures.went n most) in
    let here = subst (λ (z : ℕ). IsBelowKept z c.args.self.now.kept.items c.args.self.now.core.machine.next_ticket) (sym c.gather.ensures.by.last) c.requires.last in
    let later = below_later c.gather.new.by.last c.args.self.now.kept.items c.args.self.now.core.machine.next_ticket c.tidy.new.core.machine.next_ticket tidied.tickets here in
    c.in_ok-post_kept.ensures.last c.guess_and_send.new.core.machine.next_ticket (c.guess_and_send.ensures.rising c.gather.new.by.last later)
