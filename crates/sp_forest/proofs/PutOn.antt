-- What an outlet took of the matches of parts, one part after another.
use Rattle.std.proofs.Common.{◌≡◌, ℕ, ◌+◌, ◌<◌, List, [], ◌∷◌, ◌++◌, length, map, sym, ◌∙◌, ap, subst, arith, append_assoc, length-append}
use Rattle.std.specs.List.{All}
use Rattle.std.proofs.lemmas.List.{append-nil, length-map, map-append}
use Rattle.std.proofs.lemmas.List.Elements.{All-head, All-nil, All-cons, All-tail}
use Rattle.sp_io.specs.Outside.{GrewWithin}
use Rattle.sp_plan.specs.declared.found.Match.{Match}
use Rattle.sp_plan.specs.declared.plan.Plan.{Plan}
use Rattle.sp_plan.specs.Lines.{line}
use Rattle.sp_ports.specs.Taking.{OutletState, Took, TookFirst}
use Rattle.sp_split.specs.Driving.{FailedWithin}
use Rattle.sp_split.proofs.Behind.{first_before}
use Rattle.sp_split.proofs.Taken.{first_behind, took_before, took_more, took_none}
use Rattle.sp_forest.specs.Numbering.{numbered_from, numbered_up}
use Rattle.sp_parts.proofs.Places.{all_back}

-- what holds of all items holds of the first ones
pub all_first : {X : Type 0} (P : X → Type 0) (xs ys : List X) → All P (xs ++ ys) → All P xs
all_first P [] ys all = All-nil P
all_first P (x ∷ xs) ys all = All-cons P x xs (All-head P x (xs ++ ys) all) (all_first P xs ys (All-tail P x (xs ++ ys) all))

-- what holds of all items once they are changed holds of one of them
pub at_seam : {X Y : Type 0} (P : Y → Type 0) (f : X → Y) (xs : List X) (x : X) (ys all : List X) → xs ++ x ∷ ys ≡ all → All P (map f all) → P (f x)
at_seam P f xs x ys all are held =
    All-head P (f x) (map f ys) (all_back P (map f xs) (map f (x ∷ ys)) (subst (All P) (ap (map f) (sym are) ∙ map-append f xs (x ∷ ys)) held))

-- the matches of a part, one after another
module _ (q p : Plan) (same : p ≡ q) (xs : List Match) (x : Match) (more all : List Match) (are : xs ++ x ∷ more ≡ all) (n : ℕ) (a b c : OutletState) (took : Took q (map (numbered_up n) xs) a b) where
  in_front : map (numbered_up n) all ≡ map (numbered_up n) xs ++ numbered_up n x ∷ map (numbered_up n) more
  in_front = ap (map (numbered_up n)) (sym are) ∙ map-append (numbered_up n) xs (x ∷ more)

  pub part_next : Took p (numbered_up n x ∷ []) b c → Took q (map (numbered_up n) (xs ++ x ∷ [])) a c
  part_next next =
      subst (λ (l : List Match). Took q l a c) (sym (map-append (numbered_up n) xs (x ∷ [])))
      (took_more q (map (numbered_up n) xs) (numbered_up n x ∷ []) a b c took (subst (λ (r : Plan). Took r (numbered_up n x ∷ []) b c) same next))

  module _ (front : GrewWithin b.held (line p (numbered_up n x)) c.held) (uncounted : c.taken ≡ b.taken) where
    pub part_failed : (m k : ℕ) → m ≡ k + length xs → (failed : FailedWithin q (map (numbered_up n) all) a c) × (m ≡ k + length failed.first)
    part_failed m k many = (
      record {
        first = map (numbered_up n) xs;
        found = numbered_up n x;
        others = map (numbered_up n) more;
        are = in_front;
        failed = record {
          between = b;
          took = took;
          front = subst (λ (r : Plan). GrewWithin b.held (line r (numbered_up n x)) c.held) same front;
          count = uncounted;
        };
      },
      many ∙ ap (λ (l : ℕ). k + l) (sym (length-map xs (numbered_up n))),
    )

    pub part_short : TookFirst q (map (numbered_up n) all) a c
    part_short =
        took_before q (map (numbered_up n) xs) (numbered_up n x) (map (numbered_up n) more) (map (numbered_up n) all) a b c in_front took
        (subst (λ (r : Plan). GrewWithin b.held (line r (numbered_up n x)) c.held) same front) uncounted

-- Of all matches some were taken, and others of them are put then.
module _ (q p : Plan) (same : p ≡ q) (all taken new rest : List Match) (are : all ≡ (taken ++ new) ++ rest) (before matches : ℕ) (count : matches ≡ before + length taken)
    (a b c : OutletState) (took : Took q taken a b) where
  pub taken_on : Took p new b c → Took q (taken ++ new) a c
  taken_on then = took_more q taken new a b c took (subst (λ (r : Plan). Took r new b c) same then)

  -- the outlet failed at one of these
  pub failed_on : (m : ℕ) → (f : FailedWithin p new b c) × (m ≡ matches + length f.first) → (f : FailedWithin q all a c) × (m ≡ before + length f.first)
  failed_on m f =
      let first : List Match = f.0.first in (
        record {
          first = taken ++ first;
          found = f.0.found;
          others = f.0.others ++ rest;
          are = are ∙ append_assoc taken new rest ∙ ap (λ (l : List Match). taken ++ (l ++ rest)) f.0.are
              ∙ ap (λ (l : List Match). taken ++ l) (append_assoc first (f.0.found ∷ f.0.others) rest)
              ∙ sym (append_assoc taken first (f.0.found ∷ f.0.others ++ rest));
          failed = record {
            between = f.0.failed.between;
            took = took_more q taken first a b f.0.failed.between took (subst (λ (r : Plan). Took r first b f.0.failed.between) same f.0.failed.took);
            front = subst (λ (r : Plan). GrewWithin f.0.failed.between.held (line r f.0.found) c.held) same f.0.failed.front;
            count = f.0.failed.count;
          };
        },
        omega (arith, f.1, count, length-append taken first),
      )

  -- there was no memory for one of these
  pub short_on : TookFirst p new b c → TookFirst q all a c
  short_on f =
      subst (λ (l : List Match). TookFirst q l a c) (sym are)
      (first_before q (taken ++ new) rest a c (first_behind q taken new a b c took (subst (λ (r : Plan). TookFirst r new b c) same f)))

-- Of all matches, of which so many stood before, the outlet took some; those of the parts that are left follow them.
pub record PutSoFar (q : Plan) (all : List Match) (before matches : ℕ) (left : List (List Match)) (a b : OutletState) : Type 0 where
  pub taken : List Match
  pub are : all ≡ taken ++ numbered_from matches left
  pub took : Took q taken a b
  pub count : matches ≡ before + length taken

pub put_none : (q : Plan) (n : ℕ) (left : List (List Match)) (a : OutletState) → PutSoFar q (numbered_from n left) n n left a a
put_none q n left a = record { taken = []; are = λ i. numbered_from n left; took = took_none q a; count = omega arith }

module _ (q p : Plan) (same : p ≡ q) (all : List Match) (before matches : ℕ) (own : List Match) (left : List (List Match)) (a b : OutletState) (so : PutSoFar q all before matches (own ∷ left) a b) where
  abbrev new : List Match
  new = map (numbered_up matches) own

  abbrev rest : List Match
  rest = numbered_from (matches + length own) left

  in_parts : all ≡ (so.taken ++ new) ++ rest
  in_parts = so.are ∙ sym (append_assoc so.taken new rest)

  -- the next matches are some of all
  pub next_fit : (P : Match → Type 0) → All P all → All P new
  next_fit P held = all_first P new rest (all_back P so.taken (numbered_from matches (own ∷ left)) (subst (All P) so.are held))

  pub next_few : (most : ℕ) → before + length all < most → matches + length own < most
  next_few most few =
      let whole = ap length so.are ∙ length-append so.taken (numbered_from matches (own ∷ left)) in
      let part = length-append new rest in
      let many = length-map own (numbered_up matches) in
      let count = so.count in
      omega arith

  module _ (c : OutletState) where
    pub parts_next : (m : ℕ) → m ≡ matches + length own → Took p new b c → PutSoFar q all before m left a c
    parts_next m count took = record {
      taken = so.taken ++ new;
      are = in_parts ∙ ap (λ (n : ℕ). (so.taken ++ new) ++ numbered_from n left) (sym count);
      took = taken_on q p same all so.taken new rest in_parts before matches so.count a b c so.took took;
      count = omega (arith, count, so.count, length-append so.taken new, length-map own (numbered_up matches));
    }

    pub parts_failed : (m : ℕ) → (f : FailedWithin p new b c) × (m ≡ matches + length f.first) → (f : FailedWithin q all a c) × (m ≡ before + length f.first)
    parts_failed = failed_on q p same all so.taken new rest in_parts before matches so.count a b c so.took

    pub parts_short : TookFirst p new b c → TookFirst q all a c
    parts_short = short_on q p same all so.taken new rest in_parts before matches so.count a b c so.took

-- all was put
pub put_all : (q : Plan) (all : List Match) (before matches : ℕ) (left : List (List Match)) (a b : OutletState) → length left ≡ 0 → PutSoFar q all before matches left a b
    → Took q all a b × (matches ≡ before + length all)
put_all q all before matches [] a b none so =
    let are : all ≡ so.taken = so.are ∙ append-nil so.taken in
    (subst (λ (l : List Match). Took q l a b) (sym are) so.took, so.count ∙ ap (λ (l : List Match). before + length l) (sym are))
put_all q all before matches (own ∷ left) a b none so = absurd (omega arith)
