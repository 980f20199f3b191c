-- Feeding an event, and the end of input, keep what every state keeps.
use Rattle.std.proofs.Common.{◌≡◌, ℕ, ◌+◌, ◌≤◌, Bool, true, false, cond, List, [], ◌∷◌, ◌++◌, Some, refl, sym, ap, ◌∙◌, subst, arith}
use Rattle.sp_base.specs.Numbers.{with_numbers}
use Rattle.sp_plan.specs.declared.event.Event.{Event}
use Rattle.sp_plan.specs.declared.plan.Plan.{Plan}
use Rattle.sp_plan.specs.Runs.{State, after_closing}
use Rattle.sp_plan.specs.Reading.{reading}
use Rattle.sp_plan.specs.Sequential.{Progress}
use Rattle.sp_plan.specs.Windows.{closed}
use Rattle.sp_plan.specs.WindowNumbers.{Good, count, size}
use Rattle.sp_group.specs.Machine.{Version, Machine, version_at, inner, suppressed_by, is_suppressed, is_hit}
use Rattle.sp_rules.specs.Kept.{Local, Kept}
use Rattle.sp_rules.proofs.Facts.{Facts}
use Rattle.sp_rules.proofs.Tree.{Each}
use Rattle.sp_rules.proofs.Locals.{shape_same, supp_same}

-- the state with one event more
abbrev pub fed : Machine → Event → Machine
fed s e = record s { events = s.events ++ e ∷ [] }

-- the state after the end of input
abbrev pub ended : Machine → Machine
ended s = record s { ended = true }

inner_fed : (q : Plan) → Facts q → (E : List Event) (e : Event) (v : Version) → Good q (E ++ e ∷ []) → 1 ≤ v.window → v.window ≤ count q E → v.position ≤ size q E v.window → inner q (E ++ e ∷ []) v ≡ inner q E v
inner_fed q k E e v g one w p =
    let r = k.reading_fed E e v.skipped v.window v.position (k.good_less E e g) one w p in
    let f = k.first_fed E e v.window g one w in
    ap (λ (x : ℕ). cond v.done (after_closing (reading q (E ++ e ∷ []) v.skipped x v.position)) (reading q (E ++ e ∷ []) v.skipped x v.position)) f
    ∙ ap (λ (x : State). cond v.done (after_closing x) x) r

pub same_inner : (q : Plan) → Facts q → (s : Machine) (e : Event) → Good q (s.events ++ e ∷ []) → Kept q s → Each (λ v. inner q (s.events ++ e ∷ []) v ≡ inner q s.events v) s.versions
same_inner q k s e g h id v at = let l = h.sane.each id v at in inner_fed q k s.events e v g l.there.0 l.there.1 l.reads

pub feed_keeps : (q : Plan) → Facts q → (s : Machine) (e : Event) → Good q (s.events ++ e ∷ []) → s.ended ≡ false → Kept q s → Kept q (fed s e)
feed_keeps q k s e g going h = record {
  sane = record {
    shape = shape_same q f f' s.finished vs h.sane.shape same;
    each = λ id v at. loc id v at (h.sane.each id v at);
    ids = h.sane.ids;
    newest_first = h.sane.newest_first;
    numbers = h.sane.numbers;
    unborn = h.sane.unborn;
    emitted = h.sane.emitted ∙ ap (λ (p : Progress). p.matches) (sym (k.seq_fed E e s.finished g shut));
    consumed = h.sane.consumed ∙ ap (λ (p : Progress). with_numbers [] p.consumed) (sym (k.seq_fed E e s.finished g shut));
    good = g;
    closed = let x = k.closed_fed E e g in let y = shut in subst (λ (b : Bool). s.finished ≤ closed q (E ++ e ∷ []) b) (sym going) (omega arith);
  };
  clear = λ id v at root i x. h.clear id v at root i (sym (hit id v at i) ∙ x);
}
  where
    E : List Event
    E = s.events

    vs : List Version
    vs = s.versions

    f : Version → State
    f = inner q s.events

    f' : Version → State
    f' = inner q (s.events ++ e ∷ [])

    shut : s.finished ≤ closed q E false
    shut = subst (λ (b : Bool). s.finished ≤ closed q E b) going h.sane.closed

    same : Each (λ v. f' v ≡ f v) vs
    same id v at = let l = h.sane.each id v at in inner_fed q k s.events e v g l.there.0 l.there.1 l.reads

    supp : (id i : ℕ) → suppressed_by q f' s.consumed vs id i ≡ suppressed_by q f s.consumed vs id i
    supp = supp_same q f f' s.consumed s.finished vs h.sane.shape same

    hit : (id : ℕ) (v : Version) → version_at vs id ≡ Some v → (i : ℕ) → is_hit q (fed s e) v i ≡ is_hit q s v i
    hit id v at i =
        let l = h.sane.each id v at in
        let a = supp v.id i in
        let b = k.first_fed E e v.window g l.there.0 l.there.1 in
        rw (a, b) refl

    loc : (id : ℕ) (v : Version) → version_at vs id ≡ Some v → Local q E s.ended s.tickets (suppressed_by q f s.consumed vs id) v → Local q (E ++ e ∷ []) s.ended s.tickets (suppressed_by q f' s.consumed vs id) v
    loc id v at l =
        let cnt = k.count_fed E e g in
        let big = k.size_fed E e v.window g l.there.0 l.there.1 in
        let more = k.closed_fed E e g in
        let fst = k.first_fed E e v.window g l.there.0 l.there.1 in
        record {
          there = (l.there.0, let t = l.there.1 in omega arith);
          reads = let t = l.reads in omega arith;
          rising = l.rising;
          skips = λ i m. supp id i ∙ l.skips i m;
          read_them = λ i m. let x = l.read_them i m in omega arith;
          done = λ d. shutting v.position (l.done d);
          lent = λ n t et ot. let y = l.lent n t et ot in record {
            begins = y.begins ∙ ap (λ (x : ℕ). x + v.position) (sym fst);
            fits = let t = y.fits in omega arith;
            closes = λ c. shutting (v.position + t.count) (y.closes c);
            undone = y.undone;
            snapshot = λ i m. (supp id i ∙ (y.snapshot i m).0, (y.snapshot i m).1);
            reads = y.reads;
            shuts = y.shuts;
          };
          only = l.only;
        }
      where
        shutting : (n : ℕ) → (v.window ≤ closed q E s.ended) × (n ≡ size q E v.window) → (v.window ≤ closed q (E ++ e ∷ []) s.ended) × (n ≡ size q (E ++ e ∷ []) v.window)
        shutting n d =
            let w : v.window ≤ closed q E false = subst (λ (b : Bool). v.window ≤ closed q E b) going d.0 in
            let more = k.closed_fed E e g in
            (subst (λ (b : Bool). v.window ≤ closed q (E ++ e ∷ []) b) (sym going) (omega arith), d.1 ∙ sym (k.closed_size E e v.window g l.there.0 w))

pub end_keeps : (q : Plan) → Facts q → (s : Machine) → s.ended ≡ false → Kept q s → Kept q (ended s)
end_keeps q k s going h = record {
  sane = record {
    shape = h.sane.shape;
    each = λ id v at. loc id v (h.sane.each id v at);
    ids = h.sane.ids;
    newest_first = h.sane.newest_first;
    numbers = h.sane.numbers;
    unborn = h.sane.unborn;
    emitted = h.sane.emitted;
    consumed = h.sane.consumed;
    good = h.sane.good;
    closed = grow s.finished h.sane.closed;
  };
  clear = h.clear;
}
  where
    grow : (n : ℕ) → n ≤ closed q s.events s.ended → n ≤ closed q s.events true
    grow n l = let x = k.closed_end s.events h.sane.good in let y : n ≤ closed q s.events false = subst (λ (b : Bool). n ≤ closed q s.events b) going l in omega arith

    loc : (id : ℕ) (v : Version) → Local q s.events s.ended s.tickets (is_suppressed q s id) v → Local q s.events true s.tickets (is_suppressed q s id) v
    loc id v l = record {
      there = l.there;
      reads = l.reads;
      rising = l.rising;
      skips = l.skips;
      read_them = l.read_them;
      done = λ d. (grow v.window (l.done d).0, (l.done d).1);
      lent = λ n t et ot. let y = l.lent n t et ot in record {
        begins = y.begins;
        fits = y.fits;
        undone = y.undone;
        snapshot = y.snapshot;
        reads = y.reads;
        shuts = y.shuts;
        closes = λ c. (grow v.window (y.closes c).0, (y.closes c).1);
      };
      only = l.only;
    }
