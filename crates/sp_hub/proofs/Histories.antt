-- A history with an entry more.
use Rattle.std.proofs.Common.{◌≡◌, ℕ, zero, suc, ◌+◌, ◌≤◌, Bool, true, false, cond, List, [], ◌∷◌, ◌++◌, length, take, map, refl, sym, ap, ◌∙◌, subst, append_assoc, add-zero, arith}
use Rattle.std.specs.Prelude.{if◌then◌else◌}
use Rattle.std.specs.List.{count_by, flat_map}
use Rattle.std.proofs.lemmas.List.{append-nil, length-append, map-append}
use Rattle.std.proofs.lemmas.List.Sums.{sum_by-append}
use Rattle.std.proofs.lemmas.Grind.{flat_map-append}
use Rattle.std.proofs.Math.Seq.{take-nil}
use mathlib.Core.List.{IsPrefix}
use Rattle.sp_hub.specs.declared.entry.HubEntry.TheVariants.{Post, Take, Close}
use Rattle.sp_hub.specs.declared.entry.HubEntry.{HubEntry}
use Rattle.sp_hub.specs.History.{post_of, take_of, posted, taken, is_close, is_call}
use Rattle.sp_hub.specs.State.{Keeps}

-- what holds of each beginning of a list, and of the list with one more, holds of each beginning of that
pub each_beginning : (P : List HubEntry → Type 0) (es : List HubEntry) (e : HubEntry) → ((k : ℕ) → P (take k es)) → P (es ++ e ∷ []) → (k : ℕ) → P (take k (es ++ e ∷ []))
each_beginning P [] e before whole zero = before 0
each_beginning P [] e before whole (suc k) = subst (λ l. P (e ∷ l)) (sym (take-nil k)) whole
each_beginning P (x ∷ es) e before whole zero = before 0
each_beginning P (x ∷ es) e before whole (suc k) =
    each_beginning (λ l. P (x ∷ l)) es e (λ j. before (suc j)) whole k

pub flat_map-push : (f : HubEntry → List ℕ) (es : List HubEntry) (e : HubEntry) → flat_map f (es ++ e ∷ []) ≡ flat_map f es ++ f e
flat_map-push f es e = flat_map-append f es (e ∷ []) ∙ ap (λ l. flat_map f es ++ l) (append-nil (f e))

-- where old is new and a rest, and one entry adds to all three, it still is
pub split-push : (f h : HubEntry → List ℕ) (es : List HubEntry) (e : HubEntry) (rest rest' : List ℕ) → flat_map f es ≡ flat_map h es ++ rest → rest ++ f e ≡ h e ++ rest' → flat_map f (es ++ e ∷ []) ≡ flat_map h (es ++ e ∷ []) ++ rest'
split-push f h es e rest rest' was step =
    flat_map-push f es e ∙ ap (λ l. l ++ f e) was ∙ append_assoc (flat_map h es) rest (f e) ∙ ap (λ l. flat_map h es ++ l) step ∙ sym (append_assoc (flat_map h es) (h e) rest') ∙ ap (λ l. l ++ rest') (sym (flat_map-push h es e))

pub count-push : (p : HubEntry → Bool) (es : List HubEntry) (e : HubEntry) → count_by p (es ++ e ∷ []) ≡ count_by p es + cond (p e) 1 0
count-push p es e = omega (arith, sum_by-append (λ x. cond (p x) 1 0) es (e ∷ []))

bit_le : (b : Bool) → (if b then 1 else 0) ≤ 1
bit_le true = omega arith
bit_le false = omega arith

bit_below : (b : Bool) → (if b then 0 else 1) ≤ 1
bit_below true = omega arith
bit_below false = omega arith

-- an entry more
pub keeps-push : {J : Type 0} (tj : J → ℕ) (jobs jobs' : List J) (closed closed' : Bool) (es : List HubEntry) (e : HubEntry) (total total' room room' : ℕ)
    → Keeps tj jobs closed es total room
    → map tj jobs ++ post_of e ≡ take_of e ++ map tj jobs'
    → (if closed then 1 else 0) + cond (is_close e) 1 0 ≡ (if closed' then 1 else 0)
    → total' ≡ total + cond (is_call e) 1 0
    → length es + 1 + length jobs' + (if closed' then 0 else 1) ≤ room'
    → Keeps tj jobs' closed' (es ++ e ∷ []) total' room'
keeps-push tj jobs jobs' closed closed' es e total total' room room' k listed shut counted spare =
    let l = split-push post_of take_of es e (map tj jobs) (map tj jobs') k.listed listed in
    let s : count_by is_close (es ++ e ∷ []) ≡ (if closed' then 1 else 0) = count-push is_close es e ∙ ap (λ n. n + cond (is_close e) 1 0) k.shut ∙ shut in
    record {
      legal = record {
        takes = each_beginning (λ b. IsPrefix (taken b) (posted b)) es e k.legal.takes (map tj jobs', sym l);
        closes = subst (λ n. n ≤ 1) (sym s) (bit_le closed');
      };
      listed = l;
      shut = s;
      counted = counted ∙ ap (λ n. n + cond (is_call e) 1 0) k.counted ∙ sym (count-push is_call es e);
      spare = omega (arith, spare, length-append es (e ∷ []));
    }

-- a longer vector
pub keeps-more : {J : Type 0} (tj : J → ℕ) (jobs : List J) (closed : Bool) (es : List HubEntry) (total room room' : ℕ)
    → Keeps tj jobs closed es total room → room ≤ room' → Keeps tj jobs closed es total room'
keeps-more tj jobs closed es total room room' k more =
    record { legal = k.legal; listed = k.listed; shut = k.shut; counted = k.counted; spare = omega (arith, k.spare) }

pub keeps-post : {J : Type 0} (tj : J → ℕ) (jobs jobs' : List J) (job : J) (closed : Bool) (es es' : List HubEntry) (ticket total total' room room' : ℕ)
    → Keeps tj jobs closed es total room
    → jobs' ≡ jobs ++ job ∷ []
    → es' ≡ es ++ Post ticket ∷ []
    → ticket ≡ tj job
    → total' ≡ total + 1
    → length es + length jobs + 3 ≤ room'
    → Keeps tj jobs' closed es' total' room'
keeps-post tj jobs jobs' job closed es es' ticket total total' room room' k listed noted named counted spare =
    rw (listed, noted, named)
    (keeps-push tj jobs (jobs ++ job ∷ []) closed closed es (Post (tj job)) total total' room room' k
    (sym (map-append tj jobs (job ∷ []))) (add-zero _) counted
    (omega (arith, length-append jobs (job ∷ []), spare, bit_below closed)))

pub keeps-take : {J : Type 0} (tj : J → ℕ) (jobs jobs' : List J) (job : J) (closed : Bool) (es es' : List HubEntry) (seat ticket total total' room room' : ℕ)
    → Keeps tj jobs closed es total room
    → jobs ≡ job ∷ jobs'
    → es' ≡ es ++ Take seat ticket ∷ []
    → ticket ≡ tj job
    → total' ≡ total + 1
    → room' ≡ room
    → Keeps tj jobs' closed es' total' room'
keeps-take tj jobs jobs' job closed es es' seat ticket total total' room room' k listed noted named counted same =
    rw (noted, named, same)
    (keeps-push tj (job ∷ jobs') jobs' closed closed es (Take seat (tj job)) total total' room room (subst (λ l. Keeps tj l closed es total room) listed k)
    (append-nil (map tj (job ∷ jobs'))) (add-zero _) counted
    (omega (arith, k.spare, ap length listed)))

pub keeps-close : {J : Type 0} (tj : J → ℕ) (jobs : List J) (closed : Bool) (es es' : List HubEntry) (total room room' : ℕ)
    → Keeps tj jobs closed es total room
    → closed ≡ false
    → es' ≡ es ++ Close ∷ []
    → room' ≡ room
    → Keeps tj jobs true es' total room'
keeps-close tj jobs closed es es' total room room' k unshut noted same =
    rw (noted, same)
    (keeps-push tj jobs jobs false true es Close total total room room (subst (λ b. Keeps tj jobs b es total room) unshut k)
    (append-nil (map tj jobs)) refl (sym (add-zero total))
    (let s : length es + length jobs + 1 ≤ room = subst (λ (b : Bool). length es + length jobs + (if b then 0 else 1) ≤ room) unshut k.spare in omega (arith, s)))
