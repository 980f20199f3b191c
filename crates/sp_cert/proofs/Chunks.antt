-- How many of the first items hold, chunk by chunk.
use Rattle.std.proofs.Common.{◌≡◌, ℕ, zero, suc, ◌+◌, ◌*◌, ◌<◌, ◌≤◌, ◌/◌, ◌%◌, inl, inr, List, length, take, drop, Some, sym, ap, ◌∙◌, subst, arith, take-add}
use Rattle.std.specs.Prelude.{min, Result, Ok, IfOk}
use Rattle.std.specs.List.{All}
use Rattle.std.specs.Fork.{IsChunk}
use Rattle.std.proofs.lemmas.Bool.{cases_lt}
use Rattle.std.proofs.lemmas.List.{take-take}
use Rattle.std.proofs.Math.Nat.{div-add-mod, mul_comm, add-mul}
use Rattle.std.proofs.lemmas.List.Elements.{All-append}
use Rattle.std.proofs.lemmas.Option.{slice_get-get_or, slice_get_within, get_or_from_slice_get}
use Rattle.sp_cert.specs.Leading.{IsLeading}
use Rattle.sp_cert.proofs.Leads.{lead_all}

-- behind so many whole chunks all items so far hold
pub record Counted {X : Type 0} (P : X → Type 0) (items : List X) (size chunks total : ℕ) : Type 0 where
  pub total_is : total ≡ chunks * size
  pub within : total ≤ length items
  pub all : All P (take total items)

module _ {X : Type 0} (P : X → Type 0) (items : List X) (size start count : ℕ) (part : List X) (is : IsChunk items size start part) (so_far : All P (take start items)) (leading : IsLeading P part count) where
  -- those of the chunk that hold behind those before it
  all_on : All P (take (start + count) items)
  all_on =
      let low = leading.within in
      let most = is.at_most_size in
      let front : take count part ≡ take count (drop start items) = ap (take count) is.value ∙ take-take count size (drop start items) (omega arith) in
      subst (All P) (sym (take-add start count items)) (All-append P (take start items) (take count (drop start items)) so_far (subst (All P) front leading.all))

  -- the chunk holds whole
  pub whole : size ≤ count → (count ≡ size) × (start + count ≤ length items) × All P (take (start + count) items)
  whole full =
      let low = leading.within in
      let most = is.at_most_size in
      let bound = is.in_bounds in
      (omega arith, omega arith, all_on)

  -- the chunk holds to one of its items, or it is the last
  pub stopped : count < size → IsLeading P items (start + count)
  stopped short = record {
    within = let low = leading.within in let bound = is.in_bounds in omega arith;
    all = all_on;
    stops = λ x at. elim (cases_lt count (length part)) [
      | inl inside ↦ leading.stops x (slice_get-get_or part count x inside ∙ ap (λ y. Some y) (is.elements count x inside ∙ get_or_from_slice_get items (start + count) x x at))
      | inr end ↦ (let within = slice_get_within items (start + count) x at in let low = leading.within in let len = is.len in absurd (omega arith))
    ];
  }

-- how many of a chunk's first items hold, where that is known
pub record Led {X E : Type 0} (P : X → Type 0) (items : List X) (size chunk : ℕ) (count : Result ℕ E) : Type 0 where
  pub part : List X
  pub is : IsChunk items size (chunk * size) part
  pub leading : IfOk count (IsLeading P part)

module _ {X E : Type 0} (P : X → Type 0) (items : List X) (size chunk total count : ℕ) (counted : Counted P items size chunk total) (r : Result ℕ E) (led : Led P items size chunk r) (known : r ≡ Ok count) where
  leading : IsLeading P led.part count
  leading = subst (λ x. IfOk x (IsLeading P led.part)) known led.leading

  front : All P (take (chunk * size) items)
  front = subst (λ n. All P (take n items)) counted.total_is counted.all

  start : total + count ≡ chunk * size + count
  start = ap (λ n. n + count) counted.total_is

  -- they are some of the items
  pub counted_within : total + count ≤ length items
  counted_within = let low = leading.within in let bound = led.is.in_bounds in let is = counted.total_is in omega arith

  -- one whole chunk more
  pub counted_more : size ≤ count → Counted P items size (chunk + 1) (total + count)
  counted_more full =
      let all = whole P items size (chunk * size) count led.part led.is front leading full in
      let is : count ≡ size = all.0 in
      record {
        total_is = start ∙ ap (λ n. chunk * size + n) is ∙ sym (add-mul chunk 1 size ∙ omega arith);
        within = counted_within;
        all = subst (λ n. All P (take n items)) (sym start) all.2;
      }

  -- the last chunk of which all hold, or one of which not all hold
  pub counted_to : count < size → IsLeading P items (total + count)
  counted_to short = subst (IsLeading P items) (sym start) (stopped P items size (chunk * size) count led.part led.is front leading short)

-- so many whole chunks as there are, and no more items than these, are all items
count_is : (q r size chunks n : ℕ) → q * size + r ≡ n → r < size → chunks ≡ q + min 1 r → chunks * size ≤ n → chunks * size ≡ n
count_is q zero size chunks n split less many low = let same : chunks ≡ q = omega arith in ap (λ (k : ℕ). k * size) same ∙ omega arith
count_is q (suc r) size chunks n split less many low =
    let same : chunks ≡ q + 1 = omega arith in
    let product : chunks * size ≡ q * size + 1 * size = ap (λ (k : ℕ). k * size) same ∙ add-mul q 1 size in
    absurd (omega arith)

-- all chunks hold
pub all_hold : {X : Type 0} (P : X → Type 0) (items : List X) (size chunks total : ℕ) → 0 < size → chunks ≡ length items / size + min 1 (length items % size) → Counted P items size chunks total → IsLeading P items total
all_hold P items size chunks total some many counted =
    let n = length items in
    let q = n / size in
    let split : q * size + n % size ≡ n = ap (λ m. m + n % size) (mul_comm q size) ∙ div-add-mod n size in
    let less : n % size < size = omega arith in
    let low = counted.within in
    let is = counted.total_is in
    let all : total ≡ n = is ∙ count_is q (n % size) size chunks n split less many (subst (λ m. m ≤ n) is low) in
    subst (IsLeading P items) (sym all) (lead_all P items total all counted.all)
