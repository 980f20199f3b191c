use Rattle.std.proofs.Common.{◌≡◌, ℕ, ◌<◌, List, [], ◌∷◌, ap, sym, subst, length, set, vec_len, arith, rules}
use Rattle.std.specs.Prelude.{◌==◌}
use Rattle.std.specs.List.{AllByRecursion, IsDistinct}
use Rattle.crossbeam_queue.specs.Passes.{view}
use Rattle.sp_hub.specs.declared.knows.Knows.{Knows}
use Rattle.sp_hub.specs.WayHome.{numbers_back}
use Rattle.sp_hub.proofs.Backs.{account, amount_more, are_numbered, are_of_seats, back_of, counted_more, enough, fewer_more, in_order, joined_more, same_back, same_made, tell_puts}
use Rattle.sp_hub.proofs.settling.settle.Goals as goal

pub loop-seat-preserved : goal.loop-seat-preserved
loop-seat-preserved g c =
    let seat = c.in-Some.seat in
    let left = c.pop.new.self.items in
    let before = view c.loop-seat.pass in
    let taken = view c.take_back.new.by in
    let after = view c.learn.new.by in
    let same : after ≡ taken = c.learn.ensures.same in
    let pair : ((view c.leave-number.result.pass).number, (view c.leave-number.result.pass).put) ≡ account seat = ap (λ (v : Knows). (v.number, v.put)) c.leave-number.ensures.knows in
    let back : taken.joined ≡ account seat ∷ before.joined = back_of taken before _ (account seat) c.take_back.ensures.joined pair in
    let more : after.joined ≡ account seat ∷ before.joined = same_back after taken _ same back in
    let told = c.learn.ensures.told.1 in
    let apart : IsDistinct (λ a b. a == b) (numbers_back after.joined) = subst (λ (v : Knows). IsDistinct (λ a b. a == b) (numbers_back v.joined)) (sym same) told.apart in
    let made : taken.made ≡ vec_len c.args.puts = same_made taken before _ _ (vec_len c.args.puts) c.take_back.ensures.joined c.loop-seat.invariant.made in
    let lower : AllByRecursion (λ (b : ℕ × List ℕ). b.0 < taken.made) (account seat ∷ before.joined) = subst (AllByRecursion (λ (b : ℕ × List ℕ). b.0 < taken.made)) back told.below in
    let below : seat.number < taken.made = lower.0 in
    let long : length c.loop-seat.puts.items ≡ vec_len c.loop-seat.puts = search rules in
    record {
      parts = search rules;
      amount = amount_more _ _ seat _ _ _ _ c.in-Some.ensures.items (search rules) c.leave-number.ensures.amount c.loop-seat.invariant.amount;
      pass = search rules;
      knows = search rules;
      made = search rules;
      joined = joined_more c.loop-seat.seats.items left seat before.joined _ _ c.in-Some.ensures.items more c.loop-seat.invariant.joined;
      len = search rules;
      counted = counted_more c.loop-seat.puts.items _ seat.number c.leave-number.result.put seat.put before.joined _ more apart c.loop-seat.invariant.counted
          (ap (λ (n : ℕ). set c.loop-seat.puts.items n c.leave-number.result.put) c.leave-number.ensures.number) (omega (arith, below, made, long, c.loop-seat.invariant.len)) c.leave-number.ensures.put;
      fewer = fewer_more c.loop-seat.seats.items left seat c.loop-seat.puts.items _ seat.number c.leave-number.result.put _ c.in-Some.ensures.items
          (ap (λ (n : ℕ). set c.loop-seat.puts.items n c.leave-number.result.put) c.leave-number.ensures.number) (omega (arith, below, made, long, c.loop-seat.invariant.len)) c.leave-number.ensures.fewer c.loop-seat.invariant.fewer;
    }

pub returns-clause-order : goal.returns-clause-order
returns-clause-order g c =
    let none : c.loop-seat.seats.items ≡ [] = search rules in
    in_order _ (view c.loop-seat.pass) c.learn-2.ensures.told.0 c.learn-2.ensures.told.1 c.loop-seat.seats.items c.args.seats.items none c.loop-seat.invariant.joined
    c.args.by.got (ap (λ (v : Knows). v.got) c.loop-seat.invariant.knows)

pub returns-clause-puts : goal.returns-clause-puts
returns-clause-puts g c =
    let none : c.loop-seat.seats.items ≡ [] = search rules in
    tell_puts _ (view c.loop-seat.pass) c.learn-2.ensures.told.0 c.learn-2.ensures.told.1 c.loop-seat.seats.items c.args.seats.items none c.loop-seat.invariant.joined
    c.loop-seat.puts.items c.loop-seat.invariant.counted

pub returns-clause-numbers : goal.returns-clause-numbers
returns-clause-numbers g c =
    let none : c.loop-seat.seats.items ≡ [] = search rules in
    are_numbered _ (view c.loop-seat.pass) c.learn-2.ensures.told.0 c.learn-2.ensures.told.1 c.loop-seat.seats.items c.args.seats.items none c.loop-seat.invariant.joined
    (vec_len c.args.puts) c.loop-seat.invariant.made

pub returns-clause-known : goal.returns-clause-known
returns-clause-known g c =
    are_of_seats _ (view c.loop-seat.pass) c.learn-2.ensures.told.0 c.learn-2.ensures.told.1 c.args.by.got (ap (λ (v : Knows). v.got) c.loop-seat.invariant.knows)
    (vec_len c.args.puts) c.loop-seat.invariant.made

pub returns-clause-enough : goal.returns-clause-enough
returns-clause-enough g c =
    let none : c.loop-seat.seats.items ≡ [] = search rules in
    let long : length c.loop-seat.puts.items ≡ vec_len c.args.puts = search rules in
    let many : length c.args.seats.items ≡ vec_len c.args.puts = search rules in
    enough _ (view c.loop-seat.pass) c.learn-2.ensures.told.0 c.learn-2.ensures.told.1 c.loop-seat.seats.items c.args.seats.items none c.loop-seat.invariant.joined
    c.args.by.got (ap (λ (v : Knows). v.got) c.loop-seat.invariant.knows) (vec_len c.args.puts) c.loop-seat.invariant.made c.loop-seat.puts.items long many c.loop-seat.invariant.counted
