-- What the poster learns of the seats that came back, in words of the seats.
use Rattle.std.proofs.Common.{◌≡◌, ◌≢◌, ◌<◌, ◌≤◌, ℕ, zero, suc, ◌+◌, true, false, length, List, [], ◌∷◌, ◌++◌, map, set, Some, ap, refl, sym, ◌∙◌, subst, append_assoc, arith}
use Rattle.std.specs.Prelude.{◌==◌, slice_get}
use Rattle.std.specs.List.{All, AllByRecursion, IsDistinct, sum, sum_by}
use Rattle.std.proofs.lemmas.List.{map-append, length-append, length-map}
use Rattle.std.proofs.lemmas.List.Sums.{sum_by-append, sum_by-set}
use Rattle.std.proofs.lemmas.List.Elements.{All-from_recursion}
use Rattle.std.proofs.lemmas.Bool.{false≢true}
use Rattle.std.proofs.lemmas.Map.Keys.{IsDistinct-head}
use mathlib.Core.List.{IsPrefix}
use Rattle.sp_hub.specs.declared.knows.Knows.{Knows}
use Rattle.sp_hub.specs.State.{Sitting}
use Rattle.sp_hub.specs.Collecting.{tickets_by, AreCollectedInOrder, AreNumbered, AreOfSeats, TellPuts}
use Rattle.sp_hub.specs.WayHome.{poster, slips, numbers_back, Told}
use Rattle.sp_hub.proofs.Steps.{each_back}
use Rattle.sp_hub.proofs.Tickets.{all_within, none_missing}

-- a seat as it comes back
abbrev pub account : Sitting → ℕ × List ℕ
account s = (s.number, s.put)

-- these numbers tell how many tickets each seat that is back put
abbrev pub Counted : List ℕ → List (ℕ × List ℕ) → Type 0
Counted puts back = AllByRecursion (λ b. slice_get puts b.0 ≡ Some (length b.1)) back

slice_get-set_here : (l : List ℕ) (n x : ℕ) → n < length l → slice_get (set l n x) n ≡ Some x
slice_get-set_here [] n x below = absurd (omega arith)
slice_get-set_here (y ∷ l) zero x below = refl
slice_get-set_here (y ∷ l) (suc n) x below = slice_get-set_here l n x (omega arith)

slice_get-set_else : (l : List ℕ) (n k x : ℕ) → n ≢ k → slice_get (set l n x) k ≡ slice_get l k
slice_get-set_else [] n k x apart = refl
slice_get-set_else (y ∷ l) zero zero x apart = absurd (apart refl)
slice_get-set_else (y ∷ l) zero (suc k) x apart = refl
slice_get-set_else (y ∷ l) (suc n) zero x apart = refl
slice_get-set_else (y ∷ l) (suc n) (suc k) x apart = slice_get-set_else l n k x (λ e. apart (ap suc e))

counted_else : (old : List ℕ) (n x : ℕ) (joined : List (ℕ × List ℕ)) → AllByRecursion (λ y. (n == y) ≡ false) (numbers_back joined) → Counted old joined → Counted (set old n x) joined
counted_else old n x [] apart before = before
counted_else old n x (b ∷ joined) apart before = (
  slice_get-set_else old n b.0 x (λ e. false≢true (sym apart.0 ∙ (⊎_same n b.0 e))) ∙ before.0,
  counted_else old n x joined apart.1 before.1,
)
  where
    ⊎_same : (a b : ℕ) → a ≡ b → (a == b) ≡ true
    ⊎_same a b e = grind arith

-- a seat more is written down
pub counted_more : (old new : List ℕ) (n put : ℕ) (all : List ℕ) (joined back : List (ℕ × List ℕ)) → back ≡ (n, all) ∷ joined → IsDistinct (λ a b. a == b) (numbers_back back) → Counted old joined
    → new ≡ set old n put → n < length old → put ≡ length all → Counted new back
counted_more old new n put all joined back is apart before written below many =
    let apart' : IsDistinct (λ a b. a == b) (n ∷ numbers_back joined) = subst (λ l. IsDistinct (λ a b. a == b) (numbers_back l)) is apart in
    let here : slice_get new n ≡ Some (length all) = ap (λ (l : List ℕ). slice_get l n) written ∙ slice_get-set_here old n put below ∙ ap (λ (k : ℕ). Some k) many in
    subst (Counted new) (sym is) (here, subst (λ l. Counted l joined) (sym written) (counted_else old n put joined (IsDistinct-head (λ a b. a == b) n (numbers_back joined) apart') before))

-- the last seat of the list comes back
pub joined_more : (old new : List Sitting) (seat : Sitting) (joined back all : List (ℕ × List ℕ)) → old ≡ new ++ seat ∷ [] → back ≡ account seat ∷ joined → map account old ++ joined ≡ all → map account new ++ back ≡ all
joined_more old new seat joined back all popped more was =
    ap (λ l. map account new ++ l) more ∙ sym (append_assoc (map account new) (account seat ∷ []) joined) ∙ ap (λ l. l ++ joined) (sym (map-append account new (seat ∷ [])) ∙ ap (map account) (sym popped)) ∙ was

-- of the poster's view after a seat came back
pub back_of : (taken before : Knows) (pair p : ℕ × List ℕ) → taken ≡ poster before.made before.got (pair ∷ before.joined) → pair ≡ p → taken.joined ≡ p ∷ before.joined
back_of taken before pair p is same = ap (λ (v : Knows). v.joined) is ∙ ap (λ (q : ℕ × List ℕ). q ∷ before.joined) same

pub same_back : (after taken : Knows) (all : List (ℕ × List ℕ)) → after ≡ taken → taken.joined ≡ all → after.joined ≡ all
same_back after taken all same is = ap (λ (v : Knows). v.joined) same ∙ is

pub same_made : (taken before : Knows) (joined : List (ℕ × List ℕ)) (got : List (ℕ × ℕ)) (count : ℕ) → taken ≡ poster before.made got joined → before.made ≡ count → taken.made ≡ count
same_made taken before joined got count is made = ap (λ (v : Knows). v.made) is ∙ made

pub amount_more : (old new : List Sitting) (seat : Sitting) (amount amount' share all : ℕ) → old ≡ new ++ seat ∷ [] → amount' ≡ amount + share → share ≡ seat.calls
    → amount + sum_by (λ (s : Sitting). s.calls) old ≡ all → amount' + sum_by (λ (s : Sitting). s.calls) new ≡ all
amount_more old new seat amount amount' share all popped merged own was =
    let parts = ap (sum_by (λ (s : Sitting). s.calls)) popped ∙ sum_by-append (λ (s : Sitting). s.calls) new (seat ∷ []) in omega (arith, parts, merged, own, was)

-- with the pieces of a seat more, no more were put than jobs taken
pub fewer_more : (old new : List Sitting) (seat : Sitting) (puts puts' : List ℕ) (n put all : ℕ) → old ≡ new ++ seat ∷ [] → puts' ≡ set puts n put → n < length puts → put ≤ seat.calls
    → sum puts + sum_by (λ (s : Sitting). s.calls) old ≤ all → sum puts' + sum_by (λ (s : Sitting). s.calls) new ≤ all
fewer_more old new seat puts puts' n put all popped written below few was =
    let parts = ap (sum_by (λ (s : Sitting). s.calls)) popped ∙ sum_by-append (λ (s : Sitting). s.calls) new (seat ∷ []) in
    let sums = ap sum written in
    let more = sum_by-set (λ (z : ℕ). z) puts n put 0 below in
    omega (arith, parts, sums, more, few, was)

-- of each seat that is back at most as many tickets were collected as it put, and it is told how many that were
slice_get_below : (l : List ℕ) (j x : ℕ) → slice_get l j ≡ Some x → j < length l
slice_get_below [] j x is = cc
slice_get_below (y ∷ l) zero x is = omega arith
slice_get_below (y ∷ l) (suc j) x is = let below = slice_get_below l j x is in omega (arith, below)

both : (Q S : ℕ × List ℕ → Type 0) (back : List (ℕ × List ℕ)) → AllByRecursion Q back → AllByRecursion S back → AllByRecursion (λ b. Q b × S b) back
both Q S [] q s = tt
both Q S (b ∷ back) q s = ((q.0, s.0), both Q S back q.1 s.1)

fits_in : (got rest : List (ℕ × ℕ)) (puts : List ℕ) (k x : ℕ) (b : ℕ × List ℕ) → k ≡ b.0 → slice_get puts k ≡ Some x → (tickets_by b.0 got ++ tickets_by b.0 rest ≡ b.1) × (slice_get puts b.0 ≡ Some (length b.1)) → length (tickets_by k got) ≤ x
fits_in got rest puts k x b same is told =
    let last : slice_get puts k ≡ Some (length b.1) = ap (slice_get puts) same ∙ told.1 in
    let put : x ≡ length b.1 = cc in
    let parts : length (tickets_by b.0 got ++ tickets_by b.0 rest) ≡ length b.1 = ap length told.0 in
    let split = length-append (tickets_by b.0 got) (tickets_by b.0 rest) in
    let here : length (tickets_by k got) ≡ length (tickets_by b.0 got) = ap (λ (n : ℕ). length (tickets_by n got)) same in
    omega (arith, put, parts, split, here)

-- what holds of each seat that came back holds of each seat
of_seats : (Q : ℕ × List ℕ → Type 0) (seats : List Sitting) → AllByRecursion Q (map account seats) → AllByRecursion (λ s. Q (account s)) seats
of_seats Q [] h = h
of_seats Q (s ∷ seats) h = (h.0, of_seats Q seats h.1)

pub all_of_seats : (Q : ℕ × List ℕ → Type 0) (seats : List Sitting) (joined : List (ℕ × List ℕ)) → joined ≡ map account seats → AllByRecursion Q joined → All (λ (s : Sitting). Q (account s)) seats
all_of_seats Q seats joined is h =
    All-from_recursion (λ (s : Sitting). Q (account s)) seats (of_seats Q seats (subst (AllByRecursion Q) is h))

numbers_of : (seats : List Sitting) → numbers_back (map account seats) ≡ map (λ (s : Sitting). s.number) seats
numbers_of [] = refl
numbers_of (s ∷ seats) = ap (λ (l : List ℕ). s.number ∷ l) (numbers_of seats)

all_back : (left seats : List Sitting) (joined : List (ℕ × List ℕ)) → left ≡ [] → map account left ++ joined ≡ map account seats → joined ≡ map account seats
all_back left seats joined none was = ap (λ (l : List Sitting). map account l ++ joined) (sym none) ∙ was

module _ {P : Type 0} (tk : P → ℕ) (v : Knows) (items : List (ℕ × P)) (told : Told tk v items) (left seats : List Sitting) (none : left ≡ []) (was : map account left ++ v.joined ≡ map account seats) where
  pub in_order : (got : List (ℕ × ℕ)) → v.got ≡ got → AreCollectedInOrder got seats
  in_order got mine =
      all_of_seats (λ b. IsPrefix (tickets_by b.0 got) b.1) seats v.joined (all_back left seats v.joined none was)
      (each_back (λ b. tickets_by b.0 v.got ++ tickets_by b.0 (slips tk items) ≡ b.1) (λ b. IsPrefix (tickets_by b.0 got) b.1) v.joined
      (λ b e. (tickets_by b.0 (slips tk items), ap (λ g. tickets_by b.0 g ++ tickets_by b.0 (slips tk items)) (sym mine) ∙ e)) told.begins)

  pub are_numbered : (count : ℕ) → v.made ≡ count → AreNumbered count seats
  are_numbered count made =
      let all = all_back left seats v.joined none was in
      record {
        apart = subst (IsDistinct (λ a b. a == b)) (ap numbers_back all ∙ numbers_of seats) told.apart;
        below = all_of_seats (λ b. b.0 < count) seats v.joined all (each_back (λ b. b.0 < v.made) (λ b. b.0 < count) v.joined (λ b less. subst (λ (n : ℕ). b.0 < n) made less) told.below);
      }

  pub tell_puts : (puts : List ℕ) → Counted puts v.joined → TellPuts puts seats
  tell_puts puts counted =
      all_of_seats (λ b. slice_get puts b.0 ≡ Some (length b.1)) seats v.joined (all_back left seats v.joined none was) counted

  pub enough : (got : List (ℕ × ℕ)) → v.got ≡ got → (count : ℕ) → v.made ≡ count → (puts : List ℕ) → length puts ≡ count → length seats ≡ count → Counted puts v.joined → length got ≤ sum puts
  enough got mine count made puts long many counted =
      let all = all_back left seats v.joined none was in
      let back : length v.joined ≡ count = ap length all ∙ length-map seats account ∙ many in
      let begins : AllByRecursion (λ b. tickets_by b.0 got ++ tickets_by b.0 (slips tk items) ≡ b.1) v.joined = subst (λ g. AllByRecursion (λ b. tickets_by b.0 g ++ tickets_by b.0 (slips tk items) ≡ b.1) v.joined) mine told.begins in
      let below : AllByRecursion (λ b. b.0 < count) v.joined = subst (λ (n : ℕ). AllByRecursion (λ (b : ℕ × List ℕ). b.0 < n) v.joined) made told.below in
      let known : AllByRecursion (λ p. p.0 < length puts) got = subst (λ (x : ℕ × List (ℕ × ℕ)). AllByRecursion (λ (p : ℕ × ℕ). p.0 < x.0) x.1) (λ i. ((made ∙ sym long) i, mine i)) told.known in
      all_within puts got known (λ k x is.
      let b = none_missing (λ b. (tickets_by b.0 got ++ tickets_by b.0 (slips tk items) ≡ b.1) × (slice_get puts b.0 ≡ Some (length b.1))) v.joined count k told.apart below back (let low = slice_get_below puts k x is in omega (arith, low, long))
      (both (λ b. tickets_by b.0 got ++ tickets_by b.0 (slips tk items) ≡ b.1) (λ b. slice_get puts b.0 ≡ Some (length b.1)) v.joined begins counted) in
      fits_in got (slips tk items) puts k x b.0 b.1 is b.2)

module _ {P : Type 0} (tk : P → ℕ) (v : Knows) (items : List (ℕ × P)) (told : Told tk v items) where
  pub are_of_seats : (got : List (ℕ × ℕ)) → v.got ≡ got → (count : ℕ) → v.made ≡ count → AreOfSeats count got
  are_of_seats got mine count made =
      All-from_recursion (λ (p : ℕ × ℕ). p.0 < count) got (subst (λ (x : ℕ × List (ℕ × ℕ)). AllByRecursion (λ (p : ℕ × ℕ). p.0 < x.0) x.1) (λ i. (made i, mine i)) told.known)
