-- Each step keeps the rule of the way home.
use Rattle.std.proofs.Common.{◌≡◌, ◌≢◌, ◌<◌, ℕ, zero, suc, ◌+◌, true, false, true≢false, List, [], ◌∷◌, ◌++◌, length, set, sym, refl, ap, ◌∙◌, subst, ⊎_elim, ◌⊎◌, inl, inr, append_assoc, eqb, arith}
use Rattle.std.specs.Prelude.{◌==◌, if◌then◌else◌}
use Rattle.std.specs.List.{AllByRecursion, Contains, IsDistinct}
use Rattle.std.proofs.lemmas.List.{append-nil, map-append}
use Rattle.std.proofs.lemmas.List.Elements.{Contains-append_right, Contains-append_left}
use Rattle.std.proofs.lemmas.Grind.{flat_map-append}
use Rattle.std.proofs.lemmas.Bool.Decides.{eqb_tells}
use Rattle.std.proofs.lemmas.Map.Keys.{IsDistinct-cons, IsDistinct-from_apart}
use mathlib.Core.Option.{Option, some, none, some-ne-none, some-injective}
use lib.ListN.{get_elem?}
use Rattle.crossbeam_queue.specs.Fifo.{Pushes, Pops, Forks, Merges, Learns}
use Rattle.crossbeam_queue.proofs.Lists.{at_set, at_longer, at_last, set_here, set_else}
use Rattle.sp_hub.specs.declared.knows.Knows.{Knows}
use Rattle.sp_hub.specs.Collecting.{ticket_by, tickets_by}
use Rattle.sp_hub.specs.WayHome.{poster, seat, spent, slips, numbers_back, IsBack, FitsSeat, FitsPoster, Bears, IsBorne, Delivers, Told}
use Rattle.sp_hub.proofs.Tickets.{all_known}

-- ---- lists of views

abbrev All : (ℕ → Knows → Type 0) → List Knows → Type 0
All F views = (pass : ℕ) (v : Knows) → get_elem? views pass ≡ some v → F pass v

all_set : (F : ℕ → Knows → Type 0) (views : List Knows) (pass : ℕ) (w : Knows) → F pass w → ((j : ℕ) (u : Knows) → j ≢ pass → get_elem? views j ≡ some u → F j u) → All F (set views pass w)
all_set F views pass w mine others j u e = ⊎_elim (λ (x : (j ≡ pass) × (w ≡ u)). subst (λ (y : ℕ × Knows). F y.0 y.1) (λ i. (sym x.0 i, x.1 i)) mine)
    (λ (x : (j ≢ pass) × (get_elem? views j ≡ some u)). others j u x.0 x.1) (at_set views pass j w u e)

at_push : (l : List Knows) (a b : Knows) (j : ℕ) → get_elem? (l ++ a ∷ []) j ≡ some b → (get_elem? l j ≡ some b) ⊎ ((j ≡ length l) × (a ≡ b))
at_push [] a b zero e = inr (refl, some-injective a b e)
at_push [] a b (suc j) e = absurd (some-ne-none b (sym e))
at_push (x ∷ xs) a b zero e = inl e
at_push (x ∷ xs) a b (suc j) e = ⊎_elim (λ t. inl t) (λ t. inr (ap suc t.0, t.1)) (at_push xs a b j e)

all_push : (F : ℕ → Knows → Type 0) (views : List Knows) (w : Knows) → All F views → F (length views) w → All F (views ++ w ∷ [])
all_push F views w old mine j u e = ⊎_elim (λ (x : get_elem? views j ≡ some u). old j u x)
    (λ (x : (j ≡ length views) × (w ≡ u)). subst (λ (y : ℕ × Knows). F y.0 y.1) (λ i. (sym x.0 i, x.1 i)) mine) (at_push views w u j e)

below_length : (l : List Knows) (i : ℕ) (a : Knows) → get_elem? l i ≡ some a → i < length l
below_length [] i a e = absurd (some-ne-none a (sym e))
below_length (x ∷ xs) zero a e = omega arith
below_length (x ∷ xs) (suc i) a e = let h = below_length xs i a e in omega arith

same_view : (views : List Knows) (pass : ℕ) (v u : Knows) → get_elem? views pass ≡ some v → get_elem? views pass ≡ some u → v ≡ u
same_view views pass v u a b = some-injective v u (sym a ∙ b)

-- ---- seats that came back

pub each_back : (Q S : ℕ × List ℕ → Type 0) (back : List (ℕ × List ℕ)) → ((p : ℕ × List ℕ) → Q p → S p) → AllByRecursion Q back → AllByRecursion S back
each_back Q S [] f h = h
each_back Q S (p ∷ ps) f h = (f p h.0, each_back Q S ps f h.1)

numbers_apart : (Q : ℕ × List ℕ → Type 0) (n : ℕ) (back : List (ℕ × List ℕ)) → ((p : ℕ × List ℕ) → Q p → n ≢ p.0) → AllByRecursion Q back → AllByRecursion (λ y. (n == y) ≡ false) (numbers_back back)
numbers_apart Q n [] f h = h
numbers_apart Q n (p ∷ ps) f h =
    (⊎_elim (λ t. absurd (f p h.0 t.1)) (λ t. t.0) (eqb_tells n p.0), numbers_apart Q n ps f h.1)

none_apart : IsDistinct (λ a b. a == b) []
none_apart = IsDistinct-from_apart (λ a b. a == b) [] (λ i j d less below. absurd (omega arith))

-- ---- functions that differ at one number

-- f but for one number
abbrev upd : {X : Type 0} → (ℕ → X) → ℕ → X → ℕ → X
upd f n x k = if n == k then x else f k

upd-here : {X : Type 0} (f : ℕ → X) (n : ℕ) (x : X) → upd f n x n ≡ x
upd-here f n x = ⊎_elim (λ (t : (eqb n n ≡ true) × (n ≡ n)). ap (λ b. if b then x else f n) t.0) (λ (t : (eqb n n ≡ false) × (n ≢ n)). absurd (t.1 refl)) (eqb_tells n n)

upd-else : {X : Type 0} (f : ℕ → X) (n k : ℕ) (x : X) → n ≢ k → upd f n x k ≡ f k
upd-else f n k x apart = ⊎_elim (λ (t : (eqb n k ≡ true) × (n ≡ k)). absurd (apart t.1)) (λ (t : (eqb n k ≡ false) × (n ≢ k)). ap (λ b. if b then x else f k) t.0) (eqb_tells n k)

upd-none : (f : ℕ → Option ℕ) (n k : ℕ) → f k ≡ none → upd f n none k ≡ none
upd-none f n k e = ⊎_elim (λ (t : (eqb n k ≡ true) × (n ≡ k)). ap (λ b. if b then none else f k) t.0) (λ (t : (eqb n k ≡ false) × (n ≢ k)). ap (λ b. if b then none else f k) t.0 ∙ e) (eqb_tells n k)

-- two seats with passes of their own have numbers of their own
apart_by : (place : ℕ → Option ℕ) (n k p q : ℕ) → place n ≡ some p → place k ≡ some q → q ≢ p → n ≢ k
apart_by place n k p q a b apart same = apart (some-injective q p (sym b ∙ ap place (sym same) ∙ a))

apart_none : (place : ℕ → Option ℕ) (n k p : ℕ) → place n ≡ some p → place k ≡ none → n ≢ k
apart_none place n k p a b same = some-ne-none p (sym a ∙ ap place same ∙ b)

-- ---- tickets of one seat

pub tickets-append : (k : ℕ) (a b : List (ℕ × ℕ)) → tickets_by k (a ++ b) ≡ tickets_by k a ++ tickets_by k b
tickets-append k a b = flat_map-append (ticket_by k) a b

one_ticket : (sent : ℕ → List ℕ) (number t k : ℕ) → sent k ++ tickets_by k ((number, t) ∷ []) ≡ upd sent number (sent number ++ t ∷ []) k
one_ticket sent number t k = ⊎_elim
    (λ (e : (eqb number k ≡ true) × (number ≡ k)). ap (λ b. sent k ++ ((if b then t ∷ [] else []) ++ [])) e.0 ∙ ap (λ j. sent j ++ t ∷ []) (sym e.1) ∙ sym (ap (λ b. if b then sent number ++ t ∷ [] else sent k) e.0))
    (λ (e : (eqb number k ≡ false) × (number ≢ k)). ap (λ b. sent k ++ ((if b then t ∷ [] else []) ++ [])) e.0 ∙ append-nil (sent k) ∙ sym (ap (λ b. if b then sent number ++ t ∷ [] else sent k) e.0))
    (eqb_tells number k)

nil_left : (a b : List ℕ) → a ++ b ≡ [] → a ≡ []
nil_left [] b e = refl
nil_left (x ∷ a) b e = cc

-- ---- numbers that some pass bears

-- where a pass's view changes, it bears what it bore
borne_set : (views : List Knows) (pass k : ℕ) (v w : Knows) → get_elem? views pass ≡ some v → (Bears v k → Bears w k) → IsBorne views k → IsBorne (set views pass w) k
borne_set views pass k v w at keeps b = ⊎_elim
    (λ (e : (eqb b.0 pass ≡ true) × (b.0 ≡ pass)).
    let mine : v ≡ b.1 = same_view views pass v b.1 at (subst (λ p. get_elem? views p ≡ some b.1) e.1 b.2) in
    (pass, w, set_here views pass w (below_length views pass v at), keeps (subst (λ (u : Knows). Bears u k) (sym mine) b.3)))
    (λ (e : (eqb b.0 pass ≡ false) × (b.0 ≢ pass)). (b.0, b.1, set_else views pass b.0 w e.1 ∙ b.2, b.3))
    (eqb_tells b.0 pass)

borne_push : (views : List Knows) (w : Knows) (k : ℕ) → IsBorne views k → IsBorne (views ++ w ∷ []) k
borne_push views w k b = (b.0, b.1, at_longer views (w ∷ []) b.0 b.1 b.2, b.3)

-- the poster bears what it bore, and a seat's number that came back
bears_more : (v w : Knows) (u : Knows) (k : ℕ) → v.sits ≡ false → v.posts ≡ true → w ≡ poster v.made v.got ((u.number, u.put) ∷ v.joined) → Bears v k → Bears w k
bears_more v w u k stands posts is b = ⊎_elim
    (λ (s : (v.sits ≡ true) × (v.number ≡ k)). absurd (true≢false (sym s.0 ∙ stands)))
    (λ (p : (v.posts ≡ true) × Contains (numbers_back v.joined) k).
    inr (ap (λ (x : Knows). x.posts) is, subst (λ (x : Knows). Contains (numbers_back x.joined) k) (sym is) (Contains-append_right (u.number ∷ []) (numbers_back v.joined) k p.1)))
    b

module _ {P : Type 0} where
  pub begins : (tk : P → ℕ) → Delivers tk [] (poster 0 [] [] ∷ [])
  begins tk = record {
    reader = 0;
    place = λ k. none;
    sent = λ k. [];
    got = [];
    count = 0;
    delivered = λ k. refl;
    fits = all_push (λ j u. FitsSeat (λ k. none) (λ k. []) 0 j u × FitsPoster 0 (λ k. none) (λ k. []) [] 0 j u) [] (poster 0 [] []) (λ j u e. absurd (some-ne-none u (sym e)))
        ((λ s. absurd (true≢false (sym s))), λ p. (refl, refl, refl, (λ k le. (refl, refl)), tt, none_apart));
    borne = λ k below. absurd (omega arith);
  }

  -- a seat puts a piece
  pub puts : (tk : P → ℕ) (n pass : ℕ) (v : Knows) (x : ℕ × P) → v ≡ seat v.number v.put → x.0 ≡ v.number → Pushes (Delivers tk) n pass v x (λ w. w ≡ seat v.number (v.put ++ tk x.1 ∷ []))
  puts tk n pass v x is here items views _ h at =
      let t = tk x.1 in let number = v.number in
      let sits : v.sits ≡ true = ap (λ (u : Knows). u.sits) is in
      let posts : v.posts ≡ false = ap (λ (u : Knows). u.posts) is in
      let place = h.place in let sent = h.sent in let got = h.got in
      let w : Knows = seat number (v.put ++ t ∷ []) in
      let sent' : ℕ → List ℕ = upd sent number (sent number ++ t ∷ []) in
      let mine = (h.fits pass v at).0 sits in
      let content : (k : ℕ) → tickets_by k (got ++ slips tk (items ++ x ∷ [])) ≡ sent' k = λ k.
      ap (λ l. tickets_by k (got ++ l)) (map-append (λ (item : ℕ × P). (item.0, tk item.1)) items (x ∷ [])) ∙ ap (tickets_by k) (sym (append_assoc got (slips tk items) ((x.0, t) ∷ [])))
      ∙ tickets-append k (got ++ slips tk items) ((x.0, t) ∷ []) ∙ ap (λ l. l ++ tickets_by k ((x.0, t) ∷ [])) (h.delivered k) ∙ ap (λ j. sent k ++ tickets_by k ((j, t) ∷ [])) here ∙ one_ticket sent number t k in (
        w,
        record {
          reader = h.reader;
          place = place;
          sent = sent';
          got = got;
          count = h.count;
          delivered = content;
          fits = all_set (λ j u. FitsSeat place sent' h.count j u × FitsPoster h.reader place sent' got h.count j u) views pass w
              ((λ s. (mine.0, ap (λ l. l ++ t ∷ []) mine.1 ∙ sym (upd-here sent number (sent number ++ t ∷ [])), mine.2)), λ p. absurd (true≢false (sym p)))
              (λ j u other e. (
                (λ s. let f = (h.fits j u e).0 s in (f.0, f.1 ∙ sym (upd-else sent number u.number (sent number ++ t ∷ []) (apart_by place number u.number pass j mine.0 f.0 other)), f.2)),
                (λ p. let f = (h.fits j u e).1 p in (
                  f.0,
                  f.1,
                  f.2,
                  (λ k le. let l = f.3 k le in (l.0, upd-else sent number k (sent number ++ t ∷ []) (apart_none place number k pass mine.0 l.0) ∙ l.1)),
                  each_back (IsBack place sent h.count) (IsBack place sent' h.count) u.joined
                      (λ q b. (b.0, b.1 ∙ sym (upd-else sent number q.0 (sent number ++ t ∷ []) (apart_none place number q.0 pass mine.0 b.0)), b.2)) f.4,
                  f.5,
                )),
              ));
          borne = λ k below. borne_set views pass k v w at
              (λ b. ⊎_elim (λ (s : (v.sits ≡ true) × (v.number ≡ k)). inl (refl, s.1)) (λ (p : (v.posts ≡ true) × Contains (numbers_back v.joined) k). absurd (true≢false (sym p.0 ∙ posts))) b)
              (h.borne k below);
        },
        refl,
      )

  -- the poster collects a piece
  pub gets : (tk : P → ℕ) (pass : ℕ) (v : Knows) → v ≡ poster v.made v.got v.joined → Pops (Delivers tk) pass v (λ x w. w ≡ poster v.made (v.got ++ (x.0, tk x.1) ∷ []) v.joined)
  gets tk pass v is x items views h at =
      let posts : v.posts ≡ true = ap (λ (u : Knows). u.posts) is in
      let stands : v.sits ≡ false = ap (λ (u : Knows). u.sits) is in
      let slip : ℕ × ℕ = (x.0, tk x.1) in
      let w : Knows = poster v.made (v.got ++ slip ∷ []) v.joined in
      let got : List (ℕ × ℕ) = h.got ++ slip ∷ [] in
      let mine = (h.fits pass v at).1 posts in (
        w,
        record {
          reader = h.reader;
          place = h.place;
          sent = h.sent;
          got = got;
          count = h.count;
          delivered = λ k. ap (tickets_by k) (append_assoc h.got (slip ∷ []) (slips tk items)) ∙ h.delivered k;
          fits = all_set (λ j u. FitsSeat h.place h.sent h.count j u × FitsPoster h.reader h.place h.sent got h.count j u) views pass w
              ((λ s. absurd (true≢false (sym s))), λ p. (mine.0, ap (λ l. l ++ slip ∷ []) mine.1, mine.2, mine.3, mine.4, mine.5))
              (λ j u other e. ((h.fits j u e).0, λ p. absurd (other (((h.fits j u e).1 p).0 ∙ sym mine.0))));
          borne = λ k below. borne_set views pass k v w at
              (λ b. ⊎_elim (λ (s : (v.sits ≡ true) × (v.number ≡ k)). absurd (true≢false (sym s.0 ∙ stands))) (λ (p : (v.posts ≡ true) × Contains (numbers_back v.joined) k). inr (refl, p.1)) b)
              (h.borne k below);
        },
        refl,
      )

  -- the poster makes a seat, before any is back
  pub seats : (tk : P → ℕ) (pass : ℕ) (v : Knows) → v ≡ poster v.made v.got [] → Forks (Delivers tk) pass v (poster (v.made + 1) v.got v.joined) (seat v.made [])
  seats tk pass v is items views h at =
      let posts : v.posts ≡ true = ap (λ (u : Knows). u.posts) is in
      let stands : v.sits ≡ false = ap (λ (u : Knows). u.sits) is in
      let early : v.joined ≡ [] = ap (λ (u : Knows). u.joined) is in
      let place = h.place in let sent = h.sent in let got = h.got in
      let left : Knows = poster (v.made + 1) v.got v.joined in
      let vs : List Knows = set views pass left in
      let place' : ℕ → Option ℕ = upd place v.made (some (length vs)) in
      let mine = (h.fits pass v at).1 posts in
      let free = mine.3 v.made (omega arith) in
      let count : ℕ = h.count + 1 in
      let F : ℕ → Knows → Type 0 = λ j u. FitsSeat place' sent count j u × FitsPoster h.reader place' sent got count j u in
      let old : All F vs = all_set F views pass left (
        (λ s. absurd (true≢false (sym s))),
        λ p. (
          mine.0,
          mine.1,
          ap (λ n. n + 1) mine.2,
          (λ k le. let l = mine.3 k (omega arith) in (upd-else place v.made k (some (length vs)) (omega arith) ∙ l.0, l.1)),
          subst (AllByRecursion (IsBack place' sent count)) (sym early) tt,
          mine.5,
        ),
      )
      (λ j u other e. (
        (λ s. let f = (h.fits j u e).0 s in (upd-else place v.made u.number (some (length vs)) (λ same. apart_none place u.number v.made j f.0 free.0 (sym same)) ∙ f.0, f.1, (let less = f.2 in omega arith))),
        (λ p. absurd (other (((h.fits j u e).1 p).0 ∙ sym mine.0))),
      )) in
      let kept : (k : ℕ) → k < h.count → IsBorne (vs ++ seat v.made [] ∷ []) k = λ k below. borne_push vs (seat v.made []) k (borne_set views pass k v left at
      (λ b. ⊎_elim (λ (s : (v.sits ≡ true) × (v.number ≡ k)). absurd (true≢false (sym s.0 ∙ stands))) (λ (p : (v.posts ≡ true) × Contains (numbers_back v.joined) k). inr (refl, p.1)) b)
      (h.borne k below)) in
      record {
        reader = h.reader;
        place = place';
        sent = sent;
        got = got;
        count = count;
        delivered = h.delivered;
        fits = all_push F vs (seat v.made []) old ((λ s. (upd-here place v.made (some (length vs)), sym free.1, (let same = mine.2 in omega arith))), λ p. absurd (true≢false (sym p)));
        borne = λ k below. ⊎_elim
            (λ (e : (eqb v.made k ≡ true) × (v.made ≡ k)). (length vs, seat v.made [], at_last vs (seat v.made []) (length vs) refl, inl (refl, e.1)))
            (λ (e : (eqb v.made k ≡ false) × (v.made ≢ k)). kept k (let same = mine.2 in let other = e.1 in omega arith))
            (eqb_tells v.made k);
      }

  -- the poster takes a seat back
  pub merges : (tk : P → ℕ) (pass : ℕ) (v : Knows) (other : ℕ) (u : Knows) → v ≡ poster v.made v.got v.joined → u ≡ seat u.number u.put → Merges (Delivers tk) pass v other u (poster v.made v.got ((u.number, u.put) ∷ v.joined)) spent
  merges tk pass v other u is sat items views h at two at' =
      let posts : v.posts ≡ true = ap (λ (x : Knows). x.posts) is in
      let stands : v.sits ≡ false = ap (λ (x : Knows). x.sits) is in
      let sits : u.sits ≡ true = ap (λ (x : Knows). x.sits) sat in
      let silent : u.posts ≡ false = ap (λ (x : Knows). x.posts) sat in
      let place = h.place in let sent = h.sent in let got = h.got in
      let both : Knows = poster v.made v.got ((u.number, u.put) ∷ v.joined) in
      let vs : List Knows = set views pass both in
      let was : get_elem? views other ≡ some u = ⊎_elim (λ x. absurd (two x.0)) (λ x. x.1) (at_set views pass other both u at') in
      let mine = (h.fits pass v at).1 posts in
      let theirs = (h.fits other u was).0 sits in
      let place' : ℕ → Option ℕ = upd place u.number none in
      let F : ℕ → Knows → Type 0 = λ j y. FitsSeat place' sent h.count j y × FitsPoster h.reader place' sent got h.count j y in
      let now : All (λ j y. j ≢ other → F j y) vs = all_set (λ j y. j ≢ other → F j y) views pass both
      (λ _. (
        (λ s. absurd (true≢false (sym s))),
        λ p. (
          mine.0,
          mine.1,
          mine.2,
          (λ k le. (upd-none place u.number k (mine.3 k le).0, (mine.3 k le).1)),
          (
            (upd-here place u.number none, theirs.1, theirs.2),
            each_back (IsBack place sent h.count) (IsBack place' sent h.count) v.joined (λ q b. (upd-none place u.number q.0 b.0, b.1, b.2)) mine.4,
          ),
          IsDistinct-cons (λ a b. a == b) u.number (numbers_back v.joined) (numbers_apart (IsBack place sent h.count) u.number v.joined (λ q b. apart_none place u.number q.0 other theirs.0 b.0) mine.4) mine.5,
        ),
      ))
      (λ j y apart e away. (
        (λ s. let f = (h.fits j y e).0 s in (upd-else place u.number y.number none (apart_by place u.number y.number other j theirs.0 f.0 away) ∙ f.0, f.1, f.2)),
        (λ p. absurd (apart (((h.fits j y e).1 p).0 ∙ sym mine.0))),
      )) in
      let after : List Knows = set vs other spent in
      let apart : pass ≢ other = λ e. two (sym e) in
      let stays : get_elem? after pass ≡ some both = set_else vs other pass spent apart ∙ set_here views pass both (below_length views pass v at) in
      let borne' : (k : ℕ) → IsBorne views k → IsBorne after k = λ k b. ⊎_elim
      (λ (e : (eqb b.0 other ≡ true) × (b.0 ≡ other)).
      let mine_too : u ≡ b.1 = same_view views other u b.1 was (subst (λ p. get_elem? views p ≡ some b.1) e.1 b.2) in
      ⊎_elim
      (λ (s : (u.sits ≡ true) × (u.number ≡ k)). (pass, both, stays, inr (refl, subst (Contains (u.number ∷ numbers_back v.joined)) s.1 (Contains-append_left (u.number ∷ []) (numbers_back v.joined) u.number (0, omega arith, refl)))))
      (λ (p : (u.posts ≡ true) × Contains (numbers_back u.joined) k). absurd (true≢false (sym p.0 ∙ silent)))
      (subst (λ (x : Knows). Bears x k) (sym mine_too) b.3))
      (λ (e : (eqb b.0 other ≡ false) × (b.0 ≢ other)). ⊎_elim
      (λ (m : (eqb b.0 pass ≡ true) × (b.0 ≡ pass)).
      let its : v ≡ b.1 = same_view views pass v b.1 at (subst (λ p. get_elem? views p ≡ some b.1) m.1 b.2) in
      (pass, both, stays, bears_more v both u k stands posts refl (subst (λ (x : Knows). Bears x k) (sym its) b.3)))
      (λ (m : (eqb b.0 pass ≡ false) × (b.0 ≢ pass)). (b.0, b.1, set_else vs other b.0 spent e.1 ∙ set_else views pass b.0 both m.1 ∙ b.2, b.3))
      (eqb_tells b.0 pass))
      (eqb_tells b.0 other) in
      record {
        reader = h.reader;
        place = place';
        sent = sent;
        got = got;
        count = h.count;
        delivered = h.delivered;
        fits = all_set F vs other spent ((λ s. absurd (true≢false (sym s))), λ p. absurd (true≢false (sym p))) (λ j y away e. now j y e away);
        borne = λ k below. borne' k (h.borne k below);
      }

  -- what the poster learns
  pub tells : (tk : P → ℕ) (pass : ℕ) (v : Knows) → v.posts ≡ true → Learns (Delivers tk) pass v (Told tk v)
  tells tk pass v posts items views h at =
      let mine = (h.fits pass v at).1 posts in
      record {
        begins = each_back (IsBack h.place h.sent h.count) (λ back. tickets_by back.0 v.got ++ tickets_by back.0 (slips tk items) ≡ back.1) v.joined
            (λ q b. ap (λ g. tickets_by q.0 g ++ tickets_by q.0 (slips tk items)) mine.1 ∙ sym (tickets-append q.0 h.got (slips tk items)) ∙ h.delivered q.0 ∙ sym b.1) mine.4;
        below = each_back (IsBack h.place h.sent h.count) (λ back. back.0 < v.made) v.joined (λ q b. let less = b.2 in let same = mine.2 in omega arith) mine.4;
        apart = mine.5;
        known = all_known v.made v.got (λ k high. nil_left (tickets_by k v.got) (tickets_by k (slips tk items))
            (ap (λ g. tickets_by k g ++ tickets_by k (slips tk items)) mine.1 ∙ sym (tickets-append k h.got (slips tk items)) ∙ h.delivered k ∙ (mine.3 k high).1));
      }

  -- a seat puts a piece, perhaps not for the first time
  pub puts_again : (tk : P → ℕ) (n pass : ℕ) (v v0 : Knows) (x : ℕ × P) (number : ℕ) (piece : P) → v0 ≡ seat number v0.put → v ≡ v0 → x ≡ (number, piece) → Pushes (Delivers tk) n pass v x (λ w. w ≡ seat v.number (v.put ++ tk x.1 ∷ []))
  puts_again tk n pass v v0 x number piece first same item =
      let own : v.number ≡ number = ap (λ (u : Knows). u.number) (same ∙ first) in
      let is : v ≡ seat v.number v.put = same ∙ first ∙ ap (λ (n : ℕ). seat n v0.put) (sym own) ∙ ap (λ (l : List ℕ). seat v.number l) (ap (λ (u : Knows). u.put) (sym same)) in
      puts tk n pass v x is (ap (λ (y : ℕ × P). y.0) item ∙ sym own)
