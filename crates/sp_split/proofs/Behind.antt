-- What an outlet took of the matches of windows, one window after another.
use Rattle.std.proofs.Common.{◌≡◌, ℕ, ◌+◌, ◌<◌, List, [], ◌∷◌, ◌++◌, length, get_or, take, drop, sym, ◌∙◌, ap, subst, append_assoc}
use Rattle.std.proofs.lemmas.Grind.{flat_map-append}
use Rattle.std.proofs.lemmas.List.{append-nil, take_more}
use Rattle.sp_io.specs.Outside.{GrewWithin, Told}
use Rattle.sp_io.proofs.Grew.{within_longer}
use Rattle.sp_plan.specs.declared.found.Match.{Match}
use Rattle.sp_plan.specs.declared.plan.Plan.{Plan}
use Rattle.sp_ports.specs.Taking.{OutletState, Took, TookFirst, first_line}
use Rattle.sp_core.specs.declared.emitted.Emitted.{Emitted}
use Rattle.sp_splitter.specs.Stages.{matches_of}
use Rattle.sp_split.specs.Driving.{FailedWithin}
use Rattle.sp_split.proofs.Taken.{took_more, failed_behind, first_behind, split_at}

-- a beginning of the next match's line is one where more matches follow
front_before : (q : Plan) (a b : Told) (others more : List Match) → GrewWithin a (first_line q others) b → GrewWithin a (first_line q (others ++ more)) b
front_before q a b [] more within = within_longer a b [] (first_line q more) within
front_before q a b (found ∷ others) more within = within

-- where the outlet failed at a match, it failed at one of more matches
failed_before : (q : Plan) (xs more : List Match) (a b : OutletState) → FailedWithin q xs a b → FailedWithin q (xs ++ more) a b
failed_before q xs more a b f = record {
  first = f.first;
  found = f.found;
  others = f.others ++ more;
  are = ap (λ (l : List Match). l ++ more) f.are ∙ append_assoc f.first (f.found ∷ f.others) more;
  failed = f.failed;
}

-- the first of matches are the first of more matches
pub first_before : (q : Plan) (xs more : List Match) (a b : OutletState) → TookFirst q xs a b → TookFirst q (xs ++ more) a b
first_before q xs more a b f = record {
  first = f.first;
  others = f.others ++ more;
  are = ap (λ (l : List Match). l ++ more) f.are ∙ append_assoc f.first f.others more;
  between = f.between;
  took = f.took;
  front = front_before q f.between.held b.held f.others more f.front;
  count = f.count;
}

module _ (q p : Plan) (same : p ≡ q) (xs : List Emitted) (i : ℕ) (x : Emitted) (inside : i < length xs) (is : x ≡ get_or xs i x) (a b c : OutletState)
    (took : Took q (matches_of (take i xs)) a b) where
  abbrev new : List Match
  new = x.matches.items

  next : matches_of (take (i + 1) xs) ≡ matches_of (take i xs) ++ new
  next =
      ap matches_of (take_more xs i x inside ∙ ap (λ (y : Emitted). take i xs ++ y ∷ []) (sym is))
      ∙ flat_map-append (λ (e : Emitted). e.matches.items) (take i xs) (x ∷ [])
      ∙ ap (λ (l : List Match). matches_of (take i xs) ++ l) (append-nil new)

  all : matches_of xs ≡ (matches_of (take i xs) ++ new) ++ matches_of (drop (i + 1) xs)
  all =
      ap matches_of (split_at xs i x inside is)
      ∙ flat_map-append (λ (e : Emitted). e.matches.items) (take i xs) (x ∷ drop (i + 1) xs)
      ∙ sym (append_assoc (matches_of (take i xs)) new (matches_of (drop (i + 1) xs)))

  -- a window's matches more were taken
  pub window_taken : Took p new b c → Took q (matches_of (take (i + 1) xs)) a c
  window_taken more =
      subst (λ (l : List Match). Took q l a c) (sym next) (took_more q (matches_of (take i xs)) new a b c took (subst (λ (r : Plan). Took r new b c) same more))

  -- at a match of the next window the outlet failed
  pub window_failed : FailedWithin p new b c → FailedWithin q (matches_of xs) a c
  window_failed f =
      subst (λ (l : List Match). FailedWithin q l a c) (sym all)
      (failed_before q (matches_of (take i xs) ++ new) (matches_of (drop (i + 1) xs)) a c
      (failed_behind q (matches_of (take i xs)) new a b c took (subst (λ (r : Plan). FailedWithin r new b c) same f)))

  -- there was no memory for all matches of the next window
  pub window_short : TookFirst p new b c → TookFirst q (matches_of xs) a c
  window_short f =
      subst (λ (l : List Match). TookFirst q l a c) (sym all)
      (first_before q (matches_of (take i xs) ++ new) (matches_of (drop (i + 1) xs)) a c
      (first_behind q (matches_of (take i xs)) new a b c took (subst (λ (r : Plan). TookFirst r new b c) same f)))
