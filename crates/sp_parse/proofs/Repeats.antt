-- A phrase and then steps: lists with commas or without, and operators that group from the left.
use Rattle.std.proofs.Common.{length, length-append, is_some, Option, Some, None, Result, Ok, Err, IfOk, Bor, ◌<◌, ◌+◌, ◌≡◌, ℕ, suc, ◌≤◌, Bool, true, false, List, [], ◌∷◌, ◌++◌, refl, sym, ◌∙◌, ap, subst, arith, append_assoc, append-nil}
use Rattle.std.proofs.lemmas.List.{append_cancel_left}
use Rattle.sp_lex.specs.declared.token.Token.{Token}
use Rattle.sp_query.specs.Phrase.{One, Both, Steps, ends, steps, Repeat}
use Rattle.sp_parse.specs.declared.stop.Stop.{Stop}
use Rattle.sp_parse.specs.Reads.{heads, look, never, reads_as, among, head_as, Found, Fault, Within, Stuck, Stops, Answers}
use Rattle.sp_parse.proofs.Reading as r
use Rattle.sp_parse.proofs.Reading.{Begins}

-- The front is read so far, with this value. Whatever steps go on from it make such a phrase, and none begins with it otherwise.
pub record Underway {A B : Type 0} (start : ℕ → List Token → A → Type 0) (step : ℕ → List Token → B → Type 0) (join : List Token → A → B → A) (C F : Token → Bool)
    (room : ℕ) (tokens : List Token) (a : A) (rest : List Token) : Type 0 where
  pub front : List Token
  pub cut : tokens ≡ front ++ rest
  pub derives : (n : ℕ) → room ≤ n → (z : List Token) (c : A) → Steps (step n) join front a z c → Repeat (start n) (step n) join (front ++ z) c
  pub only : (n : ℕ) (next u v : List Token) (b : A) → Repeat (start n) (step n) join u b → heads (among C F) v ≡ false → front ++ look rest next ≡ u ++ v
      → (z : List Token) × (u ≡ front ++ z) × Steps (step n) join front a z b

module _ {A B : Type 0} (start : ℕ → List Token → A → Type 0) (step : ℕ → List Token → B → Type 0) (join : List Token → A → B → A) (C F : Token → Bool)
    (begins : Begins F step) (apart : (t : Token) → F t ≡ true → C t ≡ false) (room : ℕ) (s : List Token) where
  heads_apart : (z v : List Token) → heads F z ≡ true → heads C (z ++ v) ≡ false
  heads_apart [] v h = absurd cc
  heads_apart (t ∷ z) v h = apart t h

  steps_stop : (n : ℕ) (front z v : List Token) (a c : A) → Steps (step n) join front a z c → heads (among C F) v ≡ false → heads C (z ++ v) ≡ false
  steps_stop n front z v a c ends h = r.among_left C F v h
  steps_stop n front z v a c (steps back rest b d i g) h = heads_apart (back ++ rest) v (r.heads_append F back rest (begins n back b i))

  step_heads : (m v next : List Token) → heads F m ≡ true → look m next ≡ v → heads (among C F) v ≡ false → ⊥
  step_heads m v next is e h = r.look_stops F m next is (ap (heads F) e ∙ r.among_right C F v h)

  pub sets_out : (rest : List Token) (a : A) → Found start C room s a rest → Underway start step join C F room s a rest
  sets_out rest a x = record {
    front = x.front;
    cut = x.cut;
    derives = λ n h z c t. record { front = x.front; rest = z; first = a; cut = refl; begins = x.derives n h; goes_on = t };
    only = λ n next u v b q h e.
        let i = x.only n next q.front (q.rest ++ v) q.first q.begins (steps_stop n q.front q.rest v q.first b q.goes_on h) (e ∙ ap (λ l. l ++ v) q.cut ∙ append_assoc q.front q.rest v) in
        (q.rest, q.cut ∙ ap (λ l. l ++ q.rest) i.0, subst (λ l. Steps (step n) join l a q.rest b) i.0 (subst (λ y. Steps (step n) join q.front y q.rest b) i.1 q.goes_on));
  }

  after_one : (front m rest : List Token) (a : A) (b : B) → heads F m ≡ true → (x : Found step C room m b rest) → (n : ℕ) (next z v : List Token) (c : A)
      → Steps (step n) join front a z c → heads (among C F) v ≡ false → x.front ++ look rest next ≡ z ++ v
      → (y : List Token) × (z ≡ x.front ++ y) × Steps (step n) join (front ++ x.front) (join (front ++ x.front) a b) y c
  after_one front m rest a b is x n next z v c ends h e =
      let k = r.look_more m x.front rest next x.cut in
      absurd (step_heads m v k.0 is (k.1 ∙ e) h)
  after_one front m rest a b is x n next z v c (steps back more d f i g) h e =
      let j = x.only n next back (more ++ v) d i (steps_stop n (front ++ back) more v (join (front ++ back) a d) c g h) (e ∙ append_assoc back more v) in
      (more, ap (λ l. l ++ more) j.0, subst (λ (p : List Token × B). Steps (step n) join (front ++ p.0) (join (front ++ p.0) a p.1) more c) (λ k. (j.0 k, j.1 k)) g)

  -- The step has a first token, since the code looked at it.
  pub goes_on : (m rest : List Token) (a : A) (b : B) (c : A) → heads F m ≡ true → (g : Underway start step join C F room s a m) → Found step C room m b rest
      → ((front : List Token) → s ≡ front ++ rest → c ≡ join front a b) → Underway start step join C F room s c rest
  goes_on m rest a b c is g x value =
      let cut_ : s ≡ (g.front ++ x.front) ++ rest = g.cut ∙ ap (λ l. g.front ++ l) x.cut ∙ sym (append_assoc g.front x.front rest) in
      let new : A = join (g.front ++ x.front) a b in
      subst (λ w. Underway start step join C F room s w rest) (sym (value (g.front ++ x.front) cut_)) (record {
        front = g.front ++ x.front;
        cut = cut_;
        derives = λ n h z d q. subst (λ l. Repeat (start n) (step n) join l d) (sym (append_assoc g.front x.front z)) (g.derives n h (x.front ++ z) d (steps x.front z b d (x.derives n h) q));
        only = λ n next u v d q h e.
            let k = r.look_more m x.front rest next x.cut in
            let e2 : g.front ++ look m k.0 ≡ u ++ v = ap (λ l. g.front ++ l) k.1 ∙ sym (append_assoc g.front x.front (look rest next)) ∙ e in
            let i = g.only n k.0 u v d q h e2 in
            let e3 : g.front ++ (x.front ++ look rest next) ≡ g.front ++ (i.0 ++ v) = ap (λ l. g.front ++ l) (sym k.1) ∙ e2 ∙ ap (λ l. l ++ v) i.1 ∙ append_assoc g.front i.0 v in
            let j = after_one g.front m rest a b is x n next i.0 v d i.2 h (append_cancel_left g.front _ _ e3) in
            (j.0, i.1 ∙ ap (λ l. g.front ++ l) j.1 ∙ sym (append_assoc g.front x.front j.0), j.2);
      })

  after_none : (n : ℕ) (front rest : List Token) (a : A) → heads F rest ≡ false → (next z v : List Token) (c : A) → Steps (step n) join front a z c → look rest next ≡ z ++ v → (z ≡ []) × (c ≡ a)
  after_none n front rest a out next z v c ends e = (refl, refl)
  after_none n front rest a out next z v c (steps back more d f i g) e =
      absurd (r.look_heads F rest next out (ap (heads F) e ∙ r.heads_append F (back ++ more) v (r.heads_append F back more (begins n back d i))))

  pub arrives : (rest : List Token) (a : A) → heads F rest ≡ false → Underway start step join C F room s a rest → Found (λ n. Repeat (start n) (step n) join) (among C F) room s a rest
  arrives rest a out g = record {
    front = g.front;
    cut = g.cut;
    derives = λ n h. subst (λ l. Repeat (start n) (step n) join l a) (append-nil g.front) (g.derives n h [] a ends);
    only = λ n next u v b q h e.
        let i = g.only n next u v b q h e in
        let e2 : g.front ++ look rest next ≡ g.front ++ (i.0 ++ v) = e ∙ ap (λ l. l ++ v) i.1 ∙ append_assoc g.front i.0 v in
        let j = after_none n g.front rest a out next i.0 v b i.2 (append_cancel_left g.front _ _ e2) in
        (i.1 ∙ ap (λ l. g.front ++ l) j.0 ∙ append-nil g.front, j.1);
  }

  adds : (m : List Token) (a : A) → (g : Underway start step join C F room s a m) → (n : ℕ) → room ≤ n → (y z : List Token) (b : B) → step n (y ++ z) b
      → Repeat (start n) (step n) join ((g.front ++ y) ++ z) (join (g.front ++ (y ++ z)) a b)
  adds m a g n h y z b i = subst (λ l. Repeat (start n) (step n) join l (join (g.front ++ (y ++ z)) a b)) (ap (λ l. g.front ++ l) (append-nil (y ++ z)) ∙ sym (append_assoc g.front y z))
      (g.derives n h ((y ++ z) ++ []) (join (g.front ++ (y ++ z)) a b) (steps (y ++ z) [] b (join (g.front ++ (y ++ z)) a b) i ends))

  after_stuck : (front m rest : List Token) (a : A) (f : Fault) → heads F m ≡ true → (x : Stuck step C room m f rest) → (n : ℕ) (next z v : List Token) (c : A) → Within f room n
      → Steps (step n) join front a z c → heads (among C F) v ≡ false → x.front ++ look rest next ≡ z ++ v → ⊥
  after_stuck front m rest a f is x n next z v c w ends h e = let k = r.look_more m x.front rest next x.cut in step_heads m v k.0 is (k.1 ∙ e) h
  after_stuck front m rest a f is x n next z v c w (steps back more d l i g) h e =
      x.none n next back (more ++ v) d w i (steps_stop n (front ++ back) more v (join (front ++ back) a d) c g h) (e ∙ append_assoc back more v)

  pub step_stuck : (m rest : List Token) (a : A) (f : Fault) → heads F m ≡ true → Underway start step join C F room s a m → Stuck step C room m f rest → Stuck (λ n. Repeat (start n) (step n) join) (among C F) room s f rest
  step_stuck m rest a f is g x = record {
    front = g.front ++ x.front;
    cut = g.cut ∙ ap (λ l. g.front ++ l) x.cut ∙ sym (append_assoc g.front x.front rest);
    more = x.more;
    value = join (g.front ++ (x.front ++ x.more)) a x.value;
    begins = adds m a g room (omega arith) x.front x.more x.value x.begins;
    opens = r.opens_map f (step (suc room)) (Repeat (start (suc room)) (step (suc room)) join) x.front (g.front ++ x.front) rest
        (λ z b d. (join (g.front ++ (x.front ++ z)) a b, adds m a g (suc room) (omega arith) x.front z b d)) x.opens;
    none = λ n next u v c w q h e.
        let k = r.look_more m x.front rest next x.cut in
        let e2 : g.front ++ look m k.0 ≡ u ++ v = ap (λ l. g.front ++ l) k.1 ∙ sym (append_assoc g.front x.front (look rest next)) ∙ e in
        let i = g.only n k.0 u v c q h e2 in
        let e3 : g.front ++ (x.front ++ look rest next) ≡ g.front ++ (i.0 ++ v) = ap (λ l. g.front ++ l) (sym k.1) ∙ e2 ∙ ap (λ l. l ++ v) i.1 ∙ append_assoc g.front i.0 v in
        after_stuck g.front m rest a f is x n next i.0 v c w i.2 h (append_cancel_left g.front _ _ e3);
  }

  pub start_stuck : (rest : List Token) (f : Fault) → Stuck start C room s f rest → Stuck (λ n. Repeat (start n) (step n) join) (among C F) room s f rest
  start_stuck rest f x = record {
    front = x.front;
    cut = x.cut;
    more = x.more;
    value = x.value;
    begins = record { front = x.front ++ x.more; rest = []; first = x.value; cut = sym (append-nil (x.front ++ x.more)); begins = x.begins; goes_on = ends };
    opens = r.opens_map f (start (suc room)) (Repeat (start (suc room)) (step (suc room)) join) x.front x.front rest
        (λ z b d. (b, record { front = x.front ++ z; rest = []; first = b; cut = sym (append-nil (x.front ++ z)); begins = d; goes_on = ends })) x.opens;
    none = λ n next u v b w q h e.
        x.none n next q.front (q.rest ++ v) q.first w q.begins (steps_stop n q.front q.rest v q.first b q.goes_on h) (e ∙ ap (λ l. l ++ v) q.cut ∙ append_assoc q.front q.rest v);
  }

-- ---- a phrase, and then operators with such a phrase behind each

-- what a loop over operators keeps
abbrev pub Grouping : {A O : Type 0} → (Token → Option O) → (ℕ → List Token → A → Type 0) → (List Token → A → O × A → A) → (Token → Bool) → ℕ → List Token → A → List Token → Type 0
Grouping op L join C room s a rest = Underway L (λ n. Both (One op) (L n)) join C (reads_as op) room s a rest

-- what reading the next phrase did, behind an operator
pub record Stepped {A O : Type 0} (op : Token → Option O) (L : ℕ → List Token → A → Type 0) (join : List Token → A → O × A → A) (C : Token → Bool)
    (room : ℕ) (tokens : List Token) (a : A) (rest : List Token) (o : O) (b : A) (after : List Token) : Type 0 where
  pub shorter : length after < length rest
  pub less : length after < length tokens
  pub goes : (c : A) → ((front : List Token) → tokens ≡ front ++ after → c ≡ join front a (o, b)) → Grouping op L join C room tokens c after

plus_one : {A : Type 0} (l : List A) (x : A) → length (x ∷ l) ≡ length l + 1
plus_one l x = omega arith

module _ {A O : Type 0} (op : Token → Option O) (L : ℕ → List Token → A → Type 0) (join : List Token → A → O × A → A) (C : Token → Bool)
    (apart : (t : Token) (o : O) → op t ≡ Some o → C t ≡ false) where
  op_begins : Begins (reads_as op) (λ n. Both (One op) (L n))
  op_begins = r.both_begins (reads_as op) (λ _. One op) L (r.one_begins op)

  some_in : (t : Token) (x : Option O) → op t ≡ x → is_some x ≡ true → C t ≡ false
  some_in t None e h = absurd cc
  some_in t (Some o) e h = apart t o e

  op_apart : (t : Token) → reads_as op t ≡ true → C t ≡ false
  op_apart t h = some_in t (op t) refl h

  item_apart : (n : ℕ) (y v : List Token) (b : A) → L n y b → heads C v ≡ false → heads never (y ++ v) ≡ false
  item_apart n y v b d h = r.heads_never (y ++ v)

  op_heads : (rest behind : List Token) (o : O) → (t : Token) × (rest ≡ t ∷ behind) × (op t ≡ Some o) → heads (reads_as op) rest ≡ true
  op_heads rest behind o p = ap (heads (reads_as op)) p.1 ∙ ap (λ x. is_some x) p.2

  pub group_begins : (F : Token → Bool) → Begins F L → Begins F (λ n. Repeat (L n) (Both (One op) (L n)) join)
  group_begins F b n u a d = ap (heads F) d.cut ∙ r.heads_append F d.front d.rest (b n d.front d.first d.begins)

  pub group_some : (n : ℕ) (y : List Token) (b : A) → L n y b → Repeat (L n) (Both (One op) (L n)) join y b
  group_some n y b d = record { front = y; rest = []; first = b; cut = sym (append-nil y); begins = d; goes_on = ends }

  module _ (room : ℕ) (s : List Token) where
    pub starts : (rest : List Token) (a : A) → Found L C room s a rest → Grouping op L join C room s a rest
    starts rest a x = sets_out L (λ n. Both (One op) (L n)) join C (reads_as op) op_begins op_apart room s rest a x

    pub steps_on : (rest behind after : List Token) (a b : A) (o : O) → (t : Token) × (rest ≡ t ∷ behind) × (op t ≡ Some o) → Grouping op L join C room s a rest → Found L C room behind b after
        → Stepped op L join C room s a rest o b after
    steps_on rest behind after a b o p g y =
        let one : length rest ≡ length behind + 1 = ap length p.1 ∙ plus_one behind p.0 in
        let two : length behind ≡ length y.front + length after = ap length y.cut ∙ length-append y.front after in
        let three : length s ≡ length g.front + length rest = ap length g.cut ∙ length-append g.front rest in
        record {
          shorter = omega arith;
          less = omega arith;
          goes = λ c e. goes_on L (λ n. Both (One op) (L n)) join C (reads_as op) op_begins op_apart room s rest after a (o, b) c (op_heads rest behind o p) g
              (r.both_found (λ _. One op) L never C room item_apart rest behind after o b (r.taken_found op room rest behind o p) y) e;
        }

    -- Whatever is read behind an operator leaves fewer tokens.
    pub step_shortens : (rest behind : List Token) (a : A) (o : O) (read : Result (A × Bor (List Token)) Stop) → (t : Token) × (rest ≡ t ∷ behind) × (op t ≡ Some o) → Grouping op L join C room s a rest
        → Answers L C room behind (λ p. (p.0, p.1.now)) read → IfOk read (λ p. length p.1.now < length s)
    step_shortens rest behind a o (Ok q) p g h = (steps_on rest behind q.1.now a q.0 o p g h).less
    step_shortens rest behind a o (Err x) p g h = tt

    pub group_ends : (rest : List Token) (a : A) → head_as op rest ≡ None → Grouping op L join C room s a rest → Found (λ n. Repeat (L n) (Both (One op) (L n)) join) (among C (reads_as op)) room s a rest
    group_ends rest a out g = arrives L (λ n. Both (One op) (L n)) join C (reads_as op) op_begins op_apart room s rest a (r.head_none op rest out) g

    pub step_stops : (rest behind : List Token) (a : A) (o : O) (e : Stop) → (t : Token) × (rest ≡ t ∷ behind) × (op t ≡ Some o) → Grouping op L join C room s a rest → Stops L C room behind e
        → Stops (λ n. Repeat (L n) (Both (One op) (L n)) join) (among C (reads_as op)) room s e
    step_stops rest behind a o e p g x = r.stops_as L (λ n. Repeat (L n) (Both (One op) (L n)) join) C (among C (reads_as op)) room room behind s e
        (λ f after y. step_stuck L (λ n. Both (One op) (L n)) join C (reads_as op) op_begins op_apart room s rest after a f (op_heads rest behind o p) g
        (r.both_stuck_right (λ _. One op) L never C room item_apart rest behind after o f (r.taken_found op room rest behind o p) y)) x

    pub start_stops : (e : Stop) → Stops L C room s e → Stops (λ n. Repeat (L n) (Both (One op) (L n)) join) (among C (reads_as op)) room s e
    start_stops e x = r.stops_as L (λ n. Repeat (L n) (Both (One op) (L n)) join) C (among C (reads_as op)) room room s s e
        (λ f after y. start_stuck L (λ n. Both (One op) (L n)) join C (reads_as op) op_begins op_apart room s after f y) x
