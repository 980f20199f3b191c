-- What an input had given when it last asked its source.
use Rattle.std.proofs.Common.{◌≡◌, ◌⊎◌, ◌+◌, inl, inr, ◌≤◌, ℕ, false, List, [], ◌++◌, length, refl, sym, ◌∙◌, ap, subst, append_assoc, arith}
use Rattle.std.specs.Prelude.{Option, Some, None}
use Rattle.std.proofs.lemmas.List.{append-nil}
use Rattle.sp_base.specs.Limits.{event_limit}
use Rattle.sp_plan.specs.Compiled.{IsTimeOf}
use Rattle.sp_plan.specs.Events.{AllFit}
use Rattle.sp_plan.specs.declared.event.Event.{Event}
use Rattle.sp_plan.specs.declared.plan.Plan.{Plan}
use Rattle.sp_ports.specs.Giving.{AreGood}
use Rattle.sp_io.specs.Outside.{SourceState}
use Rattle.sp_intake.specs.declared.reader.State.{State}
use Rattle.sp_intake.specs.declared.reader.State.TheVariants.{Going}
use Rattle.sp_intake.specs.Laws.{reads_more, gives_more, asked_gives}
use Rattle.sp_intake.specs.Pieces.{TakesPiece, Asked, AskedSoFar, AsksFrom}
use Rattle.sp_intake.specs.Reader.{Reader}
use Rattle.sp_intake.specs.Loose.{Loose, loose}
use Rattle.sp_intake.specs.LooseLaws.{punctual}
use Rattle.sp_intake.specs.Standing.{RowsAt, Held, Standing, going, seen, with_held, HasRead, IsHungry, IsIdle, Leads, Since, Reads, Between, GivesBy, Gives, ReadsFrom, stop_in}
use Rattle.sp_intake.proofs.Since.{settled_read, read_goes, reads_going, on_time_events, on_time_goes, on_time_read}

-- what is given of bytes that were there, behind what was given before
pub reads_still : (a b c : RowsAt) (bytes : List ℕ) (xs ys : List Event) → length (xs ++ ys) ≤ event_limit → Reads a bytes xs b → Reads b [] ys c → Reads a bytes (xs ++ ys) c
reads_still a b c bytes xs ys few one two =
    subst (λ (l : List ℕ). Reads a l (xs ++ ys) c) (append-nil bytes) (reads_more a b c bytes [] xs ys few one two)

-- rows that gave nothing, and then one step more
pub reads_step : (source : SourceState) (state next : State) (old new : Reader) (first : RowsAt) (events : List Event) → state ≡ Going → Reads first [] [] (record { source = source; state = state; reader = old })
    → Reads (going source old) [] events (record { source = source; state = next; reader = new }) → Reads first [] events (record { source = source; state = next; reader = new })
reads_step source state next old new first events is before told =
    reads_still first (record { source = source; state = state; reader = old }) (record { source = source; state = next; reader = new }) [] [] events told.few before
    (reads_going state is source old [] events (record { source = source; state = next; reader = new }) told)

-- and the input goes on
pub reads_further : (source : SourceState) (state next : State) (old new : Reader) (first : RowsAt) (events : List Event) → state ≡ Going → next ≡ Going → Reads first [] [] (record { source = source; state = state; reader = old })
    → Reads (going source old) [] events (going source new) → Reads first [] events (record { source = source; state = next; reader = new })
reads_further source state next old new first events is still before told =
    reads_step source state next old new first events is before (subst (λ (s : State). Reads (going source old) [] events (record { source = source; state = s; reader = new })) (sym still) told)

-- ---- an input

-- more was given
pub gives_on : (a b c : Standing) (xs ys : List Event) → c.rows.reader.given + c.rows.reader.late ≤ event_limit → Gives a xs b → Gives b ys c → Gives a (xs ++ ys) c
gives_on a b c xs ys small one two = (one.0 ++ two.0, gives_more a b c one.0 two.0 xs ys small one.1 two.1)

-- nothing more was given
pub gives_still : (a b c : Standing) (xs : List Event) → c.rows.reader.given + c.rows.reader.late ≤ event_limit → Gives a xs b → Gives b [] c → Gives a xs c
gives_still a b c xs small one two = subst (λ (events : List Event). Gives a events c) (append-nil xs) (gives_on a b c xs [] small one two)

module _ (old here new : Standing) (before events : List Event) (small : new.rows.reader.given + new.rows.reader.late ≤ event_limit) where
  -- more was given, and the source was not asked
  pub asked_still : (more : List Event) → GivesBy here [] more new → Asked old before events here → Asked old before (events ++ more) new
  asked_still more gives (inl none) = inl (none.0, gives_more old here new [] [] events more small none.1 gives)
  asked_still more gives (inr behind) = inr (record {
    front = behind.front;
    between = behind.between;
    first = behind.first;
    going = behind.going;
    hungry = behind.hungry;
    idle = behind.idle;
    piece = behind.piece;
    short = behind.short;
    others = behind.others ++ more;
    last = subst (λ (bytes : List ℕ). GivesBy behind.between bytes (behind.others ++ more) new) (append-nil behind.piece) (gives_more behind.between here new behind.piece [] behind.others more small behind.last gives);
    are = ap (λ (l : List Event). l ++ more) behind.are ∙ append_assoc before behind.others more;
    few = small;
  })

-- the source was asked, where no whole row was left
pub asked_piece : (old between new : Standing) (events : List Event) → between.rows.state ≡ Going → IsHungry between.rows.reader → IsIdle between.held → new.rows.reader.given + new.rows.reader.late ≤ event_limit → Gives old events between → TakesPiece between new
    → Asked old events events new
asked_piece old between new events going hungry idle small gave takes = inr (record {
  front = gave.0;
  between = between;
  first = gave.1;
  going = going;
  hungry = hungry;
  idle = idle;
  piece = takes.piece;
  short = takes.short;
  others = [];
  last = takes.gives;
  are = sym (append-nil events);
  few = small;
})

-- what was given, whenever the source was asked
pub either_gives : (old : Standing) (before events : List Event) (new : Standing) → Asked old before events new ⊎ Asked old events events new → Gives old events new
either_gives old before events new (inl asked) = asked_gives old before events new asked
either_gives old before events new (inr asked) = asked_gives old events events new asked

-- more was given, and the source was not asked
pub either_still : (old here new : Standing) (before events more : List Event) → new.rows.reader.given + new.rows.reader.late ≤ event_limit → GivesBy here [] more new → Asked old before events here ⊎ Asked old events events here
    → Asked old before (events ++ more) new ⊎ Asked old events (events ++ more) new
either_still old here new before events more small gives (inl asked) = inl (asked_still old here new before events small more gives asked)
either_still old here new before events more small gives (inr asked) = inr (asked_still old here new events events small more gives asked)

-- ---- nothing is held back: what is given is read of the source

-- the rows' events were given, and the input is seen as its rows are
unheld : (more events : List Event) (held : Option Held) (rows now : State) → Between None held more events → now ≡ seen held rows → (events ≡ more) × (now ≡ rows)
unheld more events None rows now same state = (same, state)
unheld more events (Some held) rows now same state = absurd same

module _ (q : Plan) (timed : IsTimeOf q.schema.columns q.schema.time) (first : RowsAt) (since : Since q punctual first.source [] [] first) (last : Standing) (events : List Event) where
  module _ (bytes : List ℕ) (gives : GivesBy (with_held first None) bytes events last) where
    are : (events ≡ gives.more) × (last.state ≡ last.rows.state)
    are = unheld gives.more events last.held last.rows.state last.state gives.between gives.sound.state

    has_read : (taken : List ℕ) → HasRead q first.source last.rows.source taken gives.more (stop_in last.rows.state) → HasRead q first.source last.source taken events (stop_in last.state)
    has_read taken has = rw (are.0, are.1, gives.sound.source) has

    good : AreGood q events
    good =
        let next = gives.reads.next since.lateness in
        subst (AreGood q) (sym are.0) (record { good = (subst (λ (p : Plan). AllFit p gives.more) since.plan next.fit, next.ordered); few = gives.reads.few })

    has_all : HasRead q first.source last.source bytes events (stop_in last.state)
    has_all = has_read bytes (on_time_read q timed first.source last.rows.source bytes gives.more (stop_in last.rows.state) (gives.reads.since q punctual first.source [] [] since).has)

pub reads_from : (q : Plan) → IsTimeOf q.schema.columns q.schema.time → (first : RowsAt) → Since q punctual first.source [] [] first → ReadsFrom q first.source (with_held first None)
reads_from q timed first since events last gives = record {
  taken = gives.0;
  has = has_all q timed first since last events gives.0 gives.1;
  good = good q timed first since last events gives.0 gives.1;
}

-- what was given when the source was last asked is just what the bytes before the last piece give
pub asks_from : (q : Plan) → IsTimeOf q.schema.columns q.schema.time → (first : RowsAt) → Since q punctual first.source [] [] first → AsksFrom q first.source (with_held first None)
asks_from q timed first since before events last asked = by asked
  where
    by : Asked (with_held first None) before events last → AskedSoFar q first.source last.source before events (stop_in last.state)
    by (inl none) = record {
      taken = [];
      has = has_all q timed first since last events [] none.1;
      good = good q timed first since last events [] none.1;
      last = record {
        front = [];
        piece = [];
        are = refl;
        short = omega arith;
        goes_on = refl;
      };
      are = none.0;
    }
    by (inr behind) =
        let taken = behind.front ++ behind.piece in
        let all : GivesBy (with_held first None) taken events last =
        subst (λ (l : List Event). GivesBy (with_held first None) taken l last) (sym behind.are)
        (gives_more (with_held first None) behind.between last behind.front behind.piece before behind.others behind.few behind.first behind.last) in
        let mid = behind.between.rows in
        let more = behind.first.more in
        let one : Since q punctual first.source behind.front more mid = behind.first.reads.since q punctual first.source [] [] since in
        let leads : Leads q punctual behind.front more mid = one.leads behind.going in
        let settled = settled_read q punctual behind.front more mid leads behind.hungry.settled in
        record {
          taken = taken;
          has = has_all q timed first since last events taken all;
          good = good q timed first since last events taken all;
          last = record {
            front = behind.front;
            piece = behind.piece;
            are = refl;
            short = behind.short;
            goes_on = on_time_goes q timed behind.front (read_goes q punctual behind.front more mid leads behind.hungry.settled behind.hungry.open_);
          };
          are = (unheld more before behind.between.held mid.state behind.between.state behind.first.between behind.first.sound.state).0
              ∙ ap (λ (r : Loose). r.reading.events) (settled ∙ ap (loose q punctual behind.front) (leads.ended ∙ behind.hungry.open_)) ∙ on_time_events q timed behind.front false;
        }
