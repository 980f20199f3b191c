-- What an outlet took, through one call after another.
use Rattle.std.specs.Prelude.{min, max}
use Rattle.std.proofs.Common.{◌≡◌, ℕ, ◌+◌, ◌-◌, ◌^◌, ◌<◌, List, [], ◌∷◌, ◌++◌, length, get_or, take, drop, refl, sym, ◌∙◌, ap, subst, arith, append_assoc, length-append, take-append-drop}
use Rattle.std.proofs.lemmas.Grind.{flat_map-append}
use Rattle.std.proofs.lemmas.List.{take_more, drop_more}
use Rattle.sp_io.specs.Outside.{Grew, GrewWithin}
use Rattle.sp_plan.specs.declared.found.Match.{Match}
use Rattle.sp_plan.specs.declared.plan.Plan.{Plan}
use Rattle.sp_plan.specs.Lines.{line, text}
use Rattle.sp_ports.specs.Taking.{OutletState, Took, TookFirst, counted, first_line}
use Rattle.sp_split.specs.Driving.{FailedWithin}
use Rattle.sp_io.proofs.Grew.{grew_none, grew_more, within_none}

counts_none : (n top : ℕ) → n ≡ max n (min (n + 0) top)
counts_none n top = omega arith

counts_on : (n a b top : ℕ) → max (max n (min (n + a) top)) (min (max n (min (n + a) top) + b) top) ≡ max n (min (n + (a + b)) top)
counts_on n a b top = omega arith

pub counted_none : (n : ℕ) → n ≡ counted n 0
counted_none n = counts_none n (2 ^ 64 - 1)

pub counted_more : (n a b : ℕ) → counted (counted n a) b ≡ counted n (a + b)
counted_more n a b = counts_on n a b (2 ^ 64 - 1)

pub took_none : (q : Plan) (s : OutletState) → Took q [] s s
took_none q s = record { lines = grew_none s.held; count = counted_none s.taken }

pub took_more : (q : Plan) (xs ys : List Match) (a b c : OutletState) → Took q xs a b → Took q ys b c → Took q (xs ++ ys) a c
took_more q xs ys a b c first second = record {
  lines = subst (λ (l : List ℕ). Grew a.held l c.held) (sym (flat_map-append (line q) xs ys)) (grew_more a.held b.held c.held (text q xs) (text q ys) first.lines second.lines);
  count = second.count ∙ ap (λ n. counted n (length ys)) first.count ∙ counted_more a.taken (length xs) (length ys) ∙ ap (counted a.taken) (sym (length-append xs ys));
}

-- what was taken whole are the first of more matches
pub took_first : (q : Plan) (xs more all : List Match) (a b : OutletState) → all ≡ xs ++ more → Took q xs a b → TookFirst q all a b
took_first q xs more all a b are took = record {
  first = xs;
  others = more;
  are = are;
  between = b;
  took = took;
  front = within_none b.held (first_line q more);
  count = refl;
}

-- behind what was taken whole stands a beginning of the next match's line
pub took_before : (q : Plan) (xs : List Match) (x : Match) (more all : List Match) (a b c : OutletState) → all ≡ xs ++ x ∷ more → Took q xs a b
    → GrewWithin b.held (line q x) c.held → c.taken ≡ b.taken → TookFirst q all a c
took_before q xs x more all a b c are took within same = record {
  first = xs;
  others = x ∷ more;
  are = are;
  between = b;
  took = took;
  front = within;
  count = same;
}

-- a list with an item that stands in it
pub split_at : {A : Type 0} (xs : List A) (i : ℕ) (x : A) → i < length xs → x ≡ get_or xs i x → xs ≡ take i xs ++ x ∷ drop (i + 1) xs
split_at {A} xs i x inside is =
    sym (take-append-drop i xs) ∙ ap (λ (l : List A). take i xs ++ l) (drop_more xs i x inside) ∙ ap (λ (y : A). take i xs ++ y ∷ drop (i + 1) xs) (sym is)

module _ (q p : Plan) (same : p ≡ q) (xs : List Match) (i : ℕ) (x : Match) (inside : i < length xs) (is : x ≡ get_or xs i x) (a b c : OutletState) (took : Took q (take i xs) a b) where
  -- a match more was taken
  pub took_next : Took p (x ∷ []) b c → Took q (take (i + 1) xs) a c
  took_next more =
      subst (λ (l : List Match). Took q l a c) (sym (take_more xs i x inside ∙ ap (λ (y : Match). take i xs ++ y ∷ []) (sym is)))
      (took_more q (take i xs) (x ∷ []) a b c took (subst (λ (r : Plan). Took r (x ∷ []) b c) same more))

  module _ (front : GrewWithin b.held (line p x) c.held) (uncounted : c.taken ≡ b.taken) where
    -- at the next match the outlet failed
    pub failed_next : FailedWithin q xs a c
    failed_next = record {
      first = take i xs;
      found = x;
      others = drop (i + 1) xs;
      are = split_at xs i x inside is;
      failed = record {
        between = b;
        took = took;
        front = subst (λ (r : Plan). GrewWithin b.held (line r x) c.held) same front;
        count = uncounted;
      };
    }

    -- there was no memory for the next match
    pub short_next : TookFirst q xs a c
    short_next = took_before q (take i xs) x (drop (i + 1) xs) xs a b c (split_at xs i x inside is) took (subst (λ (r : Plan). GrewWithin b.held (line r x) c.held) same front) uncounted

-- behind matches that were taken the outlet failed at one of others
pub failed_behind : (q : Plan) (xs ys : List Match) (a b c : OutletState) → Took q xs a b → FailedWithin q ys b c → FailedWithin q (xs ++ ys) a c
failed_behind q xs ys a b c took f = record {
  first = xs ++ f.first;
  found = f.found;
  others = f.others;
  are = ap (λ (l : List Match). xs ++ l) f.are ∙ sym (append_assoc xs f.first (f.found ∷ f.others));
  failed = record {
    between = f.failed.between;
    took = took_more q xs f.first a b f.failed.between took f.failed.took;
    front = f.failed.front;
    count = f.failed.count;
  };
}

-- behind matches that were taken the first of others were
pub first_behind : (q : Plan) (xs ys : List Match) (a b c : OutletState) → Took q xs a b → TookFirst q ys b c → TookFirst q (xs ++ ys) a c
first_behind q xs ys a b c took f = record {
  first = xs ++ f.first;
  others = f.others;
  are = ap (λ (l : List Match). xs ++ l) f.are ∙ sym (append_assoc xs f.first f.others);
  between = f.between;
  took = took_more q xs f.first a b f.between took f.took;
  front = f.front;
  count = f.count;
}
