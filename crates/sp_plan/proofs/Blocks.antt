-- Blocks of equal names: how they stay right, and how they lead to the last event of a name.
use Rattle.std.proofs.Common.{◌≡◌, ◌≢◌, ℕ, ◌+◌, ◌-◌, ◌<◌, ◌≤◌, arith, Bool, true, false, cond, List, [], ◌∷◌, ◌++◌, length, get_or, take, drop, map, filter, eqb, Option, Some, None, refl, sym, ◌∙◌, ap, subst, take-append-drop, append_assoc}
use Rattle.std.specs.List.{All, last_or}
use Rattle.std.specs.Option.{option_map}
use Rattle.std.proofs.lemmas.List.{append-nil, drop_more, drop_all, take_all, drop-append-le, take-append-le, length-append, length-take-le}
use Rattle.std.proofs.lemmas.List.Elements.{All-nil, All-head, All-tail, All-push, filter-append}
use Rattle.sp_plan.specs.declared.event.Event.{Event}
use Rattle.sp_plan.specs.declared.pairs.Pair.{Pair}
use Rattle.sp_plan.specs.Blocks.{seen, IsBlock, Blocked, named, last_named}
use Rattle.sp_plan.proofs.LastBound.{last_or-push, last_hit}

-- ---- blocks of longer and of shorter lists

blocked_front : (front xs ys : List Pair) → Blocked front (xs ++ ys) → Blocked front xs
blocked_front front [] ys h = tt
blocked_front front (p ∷ xs) ys h = (h.0, blocked_front (front ++ p ∷ []) xs ys h.1)

pub blocked_take : (n : ℕ) (xs : List Pair) → Blocked [] xs → Blocked [] (take n xs)
blocked_take n xs h = blocked_front [] (take n xs) (drop n xs) (subst (Blocked []) (sym (take-append-drop n xs)) h)

pub blocked_push : (front xs : List Pair) (p : Pair) → Blocked front xs → IsBlock (front ++ xs) p.name p.block → Blocked front (xs ++ p ∷ [])
blocked_push front [] p h here = (subst (λ l. IsBlock l p.name p.block) (append-nil front) here, tt)
blocked_push front (x ∷ xs) p h here =
    (h.0, blocked_push (front ++ x ∷ []) xs p h.1 (subst (λ l. IsBlock l p.name p.block) (sym (append_assoc front (x ∷ []) xs)) here))

block_at : (front xs ys : List Pair) (p : Pair) → Blocked front (xs ++ p ∷ ys) → IsBlock (front ++ xs) p.name p.block
block_at front [] ys p h = subst (λ l. IsBlock l p.name p.block) (sym (append-nil front)) h.0
block_at front (x ∷ xs) ys p h = subst (λ l. IsBlock l p.name p.block) (append_assoc front (x ∷ []) xs) (block_at (front ++ x ∷ []) xs ys p h.1)

split_at : (ps : List Pair) (i : ℕ) (d : Pair) → i < length ps → ps ≡ take i ps ++ (get_or ps i d ∷ drop (i + 1) ps)
split_at ps i d inside = sym (take-append-drop i ps) ∙ ap (λ l. take i ps ++ l) (drop_more ps i d inside)

block_here : (ps : List Pair) (i : ℕ) (d : Pair) → i < length ps → Blocked [] ps → IsBlock (take i ps) (get_or ps i d).name (get_or ps i d).block
block_here ps i d inside h = block_at [] (take i ps) (drop (i + 1) ps) (get_or ps i d) (subst (Blocked []) (split_at ps i d inside) h)

-- ---- the block of a pair that is put behind

pub block_first : (name : ℕ) → IsBlock [] name 0
block_first name = record { within = omega arith; own = All-nil (λ (p : Pair). p.name ≡ name); other = tt }

block_goes_on : (front : List Pair) (p : Pair) → IsBlock front p.name p.block → IsBlock (front ++ p ∷ []) p.name p.block
block_goes_on front p h =
    let longer : length (front ++ p ∷ []) ≡ length front + 1 = length-append front (p ∷ []) in
    record {
      within = omega (arith, h.within);
      own = rw (drop-append-le p.block front (p ∷ []) h.within) (All-push (λ (x : Pair). x.name ≡ p.name) (drop p.block front) p h.own refl);
      other = rw (take-append-le p.block front (p ∷ []) h.within) h.other;
    }

block_anew : (front : List Pair) (p : Pair) (name : ℕ) → p.name ≢ name → IsBlock (front ++ p ∷ []) name (length (front ++ p ∷ []))
block_anew front p name differs =
    let ps = front ++ p ∷ [] in
    let short : length ps ≤ length ps = omega arith in
    record {
      within = short;
      own = rw (drop_all (length ps) ps short) (All-nil (λ (x : Pair). x.name ≡ name));
      other = rw (take_all (length ps) ps short, last_or-push None front p) differs;
    }

last_split : (ps : List Pair) (p : Pair) → 0 < length ps → p ≡ get_or ps (length ps - 1) p → ps ≡ take (length ps - 1) ps ++ p ∷ []
last_split ps p some one =
    let i = length ps - 1 in
    let inside : i < length ps = omega arith in
    let past : length ps ≤ i + 1 = omega arith in
    split_at ps i p inside ∙ (λ k. take i ps ++ (sym one k ∷ drop_all (i + 1) ps past k))

pub block_own : (ps : List Pair) (p : Pair) (name : ℕ) → Blocked [] ps → 0 < length ps → p ≡ get_or ps (length ps - 1) p → p.name ≡ name → IsBlock ps name p.block
block_own ps p name h some last same =
    let split = last_split ps p some last in
    let here = block_at [] (take (length ps - 1) ps) [] p (subst (Blocked []) split h) in
    subst (λ n. IsBlock ps n p.block) same (subst (λ l. IsBlock l p.name p.block) (sym split) (block_goes_on (take (length ps - 1) ps) p here))

pub block_next : (ps : List Pair) (p : Pair) (name : ℕ) → 0 < length ps → p ≡ get_or ps (length ps - 1) p → p.name ≢ name → IsBlock ps name (length ps)
block_next ps p name some last differs =
    subst (λ l. IsBlock l name (length l)) (sym (last_split ps p some last)) (block_anew (take (length ps - 1) ps) p name differs)

-- ---- from block to block

none_of : (name other : ℕ) → eqb other name ≡ false → (ps : List Pair) → All (λ p. p.name ≡ other) ps → filter (λ p. eqb p.name name) ps ≡ []
none_of name other differs [] all = refl
none_of name other differs (p ∷ ps) all =
    let head : p.name ≡ other = All-head (λ (x : Pair). x.name ≡ other) p ps all in
    let passed : eqb p.name name ≡ false = ap (λ n. eqb n name) head ∙ differs in
    rw passed (none_of name other differs ps (All-tail (λ (x : Pair). x.name ≡ other) p ps all))

pub block_within : (ps : List Pair) (i : ℕ) (d : Pair) → i < length ps → Blocked [] ps → (get_or ps i d).block ≤ i
block_within ps i d inside h =
    let size : length (take i ps) ≡ i = length-take-le i ps (omega arith) in
    let here = block_here ps i d inside h in
    omega (arith, size, here.within)

pub block_passed : (ps : List Pair) (i : ℕ) (d : Pair) (name : ℕ) → i < length ps → Blocked [] ps → eqb (get_or ps i d).name name ≡ false → filter (λ p. eqb p.name name) (drop (i + 1) ps) ≡ []
    → filter (λ p. eqb p.name name) (drop (get_or ps i d).block ps) ≡ []
block_passed ps i d name inside h differs none =
    let has = λ (p : Pair). eqb p.name name in
    let p = get_or ps i d in
    let here = block_here ps i d inside h in
    let rest : drop p.block ps ≡ drop p.block (take i ps) ++ (p ∷ drop (i + 1) ps) = ap (drop p.block) (split_at ps i d inside) ∙ drop-append-le p.block (take i ps) (p ∷ drop (i + 1) ps) here.within in
    let own : filter has (drop p.block (take i ps)) ≡ [] = none_of name p.name differs (drop p.block (take i ps)) here.own in
    let behind : filter has (p ∷ drop (i + 1) ps) ≡ [] = rw differs none in
    ap (filter has) rest ∙ filter-append has (drop p.block (take i ps)) (p ∷ drop (i + 1) ps) ∙ (λ k. own k ++ behind k)

-- ---- what is found, as contracts see it

last_choice : (b : Bool) (o : Option Pair) (p : Pair) (xs : List (ℕ × Event)) (ps : List Pair) → last_or (Some (seen p)) xs ≡ option_map seen (last_or (Some p) ps) → last_or (option_map seen o) xs ≡ option_map seen (last_or o ps)
    → last_or (option_map seen o) (cond b (seen p ∷ xs) xs) ≡ option_map seen (last_or o (cond b (p ∷ ps) ps))
last_choice true o p xs ps taken passed = taken
last_choice false o p xs ps taken passed = passed

pub last_seen : (name : ℕ) (o : Option Pair) (ps : List Pair) → last_or (option_map seen o) (filter (λ (pair : ℕ × Event). eqb pair.0 name) (map seen ps)) ≡ option_map seen (last_or o (filter (λ (p : Pair). eqb p.name name) ps))
last_seen name o [] = refl
last_seen name o (p ∷ ps) =
    last_choice (eqb p.name name) o p (filter (λ (pair : ℕ × Event). eqb pair.0 name) (map seen ps)) (filter (λ (x : Pair). eqb x.name name) ps) (last_seen name (Some p) ps) (last_seen name o ps)

-- ---- the walk from the end to the front

pub walk_hit : (ps : List Pair) (left name : ℕ) (pair : Pair) → 0 < left → left ≤ length ps → pair ≡ get_or ps (left - 1) pair → named name (drop left ps) ≡ [] → eqb pair.name name ≡ true
    → Some pair ≡ last_named name ps
walk_hit ps left name pair some within item none own =
    let one : (left - 1) + 1 ≡ left = omega arith in
    let behind : named name (drop ((left - 1) + 1) ps) ≡ [] = rw one none in
    let hit : eqb (get_or ps (left - 1) pair).name name ≡ true = subst (λ (p : Pair). eqb p.name name ≡ true) item own in
    ap Some item ∙ sym (last_hit (λ (p : Pair). eqb p.name name) ps (left - 1) pair (omega arith) hit behind)

-- what holds where the walk goes on
pub record Walked (ps : List Pair) (left name : ℕ) : Type 0 where
  pub within : left ≤ length ps
  pub none : named name (drop left ps) ≡ []

pub walk_on : (ps : List Pair) (left name : ℕ) (pair : Pair) → Blocked [] ps → 0 < left → Walked ps left name → pair ≡ get_or ps (left - 1) pair → eqb pair.name name ≡ false
    → (pair.block < left) × Walked ps pair.block name
walk_on ps left name pair blocks some walked item other =
    let at = left - 1 in
    let inside : at < length ps = omega (arith, walked.within) in
    let one : at + 1 ≡ left = omega arith in
    let behind : named name (drop (at + 1) ps) ≡ [] = rw one walked.none in
    let missed : eqb (get_or ps at pair).name name ≡ false = subst (λ (p : Pair). eqb p.name name ≡ false) item other in
    let block : (get_or ps at pair).block ≤ at = block_within ps at pair inside blocks in
    let same : pair.block ≡ (get_or ps at pair).block = ap (λ (p : Pair). p.block) item in
    let passed = block_passed ps at pair name inside blocks missed behind in (
      omega (arith, block, same),
      record {
        within = omega (arith, block, same, inside);
        none = subst (λ (p : Pair). named name (drop p.block ps) ≡ []) (sym item) passed;
      },
    )

pub walk_past : (ps : List Pair) (left name : ℕ) → left ≡ 0 → named name (drop left ps) ≡ [] → None ≡ last_named name ps
walk_past ps left name start none =
    let all : named name ps ≡ [] = subst (λ n. named name (drop n ps) ≡ []) start none in
    sym (ap (λ (l : List Pair). last_or None l) all)
