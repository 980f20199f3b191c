-- Lists of phrases, one behind another or each behind a comma.
use Rattle.std.proofs.Common.{◌≡◌, ℕ, ◌+◌, ◌≤◌, ◌<◌, List, [], ◌∷◌, ◌++◌, length, get_or, take, refl, sym, ◌∙◌, ap, subst, append_assoc, append-nil}
use Rattle.std.proofs.lemmas.List.{take_all, take_more}
use Rattle.sp_lex.specs.declared.token.Token.{Token}
use Rattle.sp_query.specs.declared.mark.Mark.TheVariants as m
use Rattle.sp_query.specs.Phrase.{One, Both, Built, Steps, ends, steps, Repeat}
use Rattle.sp_query.specs.Grammar.{kernel, mark, After, Alone, ListOf, MoreOf}
use Rattle.sp_query.specs.Same.{Pairwise}
use Rattle.sp_syntax.specs.Printing.{ArePlain, Again, Prints, Each, Adds}
use Rattle.sp_syntax.proofs.Speaking.{Paired, plain_left, plain_right, Two, spoken_map, spoken_append, spoken_none, prints_both}
use Rattle.sp_syntax.proofs.Adding.{adds_both, adds_nothing}

module _ {A : Type 0} (P : List Token → A → Type 0) where
  pub each_snoc : (front back : List Token) (xs : List A) (a : A) → Each P front xs → P back a → Each P (front ++ back) (xs ++ a ∷ [])
  each_snoc front back [] a e p = (back, [], ap (λ l. l ++ back) e ∙ sym (append-nil back), p, refl)
  each_snoc front back (x ∷ xs) a e p = (e.0, e.1 ++ back, ap (λ l. l ++ back) e.2 ∙ append_assoc e.0 e.1 back, e.3, each_snoc e.1 back xs a e.4 p)

  -- such phrases, and then one
  pub record Last (u : List Token) (xs : List A) (a : A) : Type 0 where
    pub front : List Token
    pub back : List Token
    pub cut : u ≡ front ++ back
    pub items : Each P front xs
    pub item : P back a

  pub each_last : (u : List Token) (xs : List A) (a : A) → Each P u (xs ++ a ∷ []) → Last u xs a
  each_last u [] a e = record { front = []; back = e.0; cut = e.2 ∙ ap (λ l. e.0 ++ l) e.4 ∙ append-nil e.0; items = refl; item = e.3 }
  each_last u (x ∷ xs) a e =
      let l = each_last e.1 xs a e.4 in
      record { front = e.0 ++ l.front; back = l.back; cut = e.2 ∙ ap (λ z. e.0 ++ z) l.cut ∙ sym (append_assoc e.0 l.front l.back); items = (e.0, l.front, refl, e.3, l.items); item = l.item }

  module _ (R : A → A → Type 0) where
    pair_snoc : (xs ys : List A) (a b : A) → Pairwise R xs ys → R a b → Pairwise R (xs ++ a ∷ []) (ys ++ b ∷ [])
    pair_snoc [] [] a b p r = (r, tt)
    pair_snoc [] (y ∷ ys) a b p r = absurd p
    pair_snoc (x ∷ xs) [] a b p r = absurd p
    pair_snoc (x ∷ xs) (y ∷ ys) a b p r = (p.0, pair_snoc xs ys a b p.1 r)

    pub prints_no_items : Prints (Each P) (Pairwise R) [] []
    prints_no_items has = spoken_none (Again (Each P) (Pairwise R) []) (record { other = []; phrase = refl; same = tt })

    pub prints_item_more : (xs : List A) (a : A) (x y : List ℕ) → Prints (Each P) (Pairwise R) xs x → Prints P R a y → Prints (Each P) (Pairwise R) (xs ++ a ∷ []) (x ++ y)
    prints_item_more xs a x y f g has =
        let l = each_last has.tokens xs a has.phrase in
        let plain = subst ArePlain l.cut has.plain in
        spoken_map (Two (Again (Each P) (Pairwise R) xs) (Again P R a)) (Again (Each P) (Pairwise R) (xs ++ a ∷ [])) (x ++ y)
        (λ ts w. record {
          other = w.first.other ++ w.second.other ∷ [];
          phrase = subst (λ z. Each P z (w.first.other ++ w.second.other ∷ [])) (sym w.cut) (each_snoc w.front w.back w.first.other w.second.other w.first.phrase w.second.phrase);
          same = pair_snoc xs w.first.other a w.second.other w.first.same w.second.same;
        })
        (spoken_append (Again (Each P) (Pairwise R) xs) (Again P R a) x y (f (record { tokens = l.front; plain = plain_left l.front l.back plain; phrase = l.items })) (g (record { tokens = l.back; plain = plain_right l.front l.back plain; phrase = l.item })))

  pub each_map : (Q : List Token → A → Type 0) → ((u : List Token) (a : A) → P u a → Q u a) → (u : List Token) (xs : List A) → Each P u xs → Each Q u xs
  each_map Q f u [] e = e
  each_map Q f u (x ∷ xs) e = (e.0, e.1, e.2, f e.0 x e.3, each_map Q f e.1 xs e.4)

-- ---- a phrase with a list, and then steps with one item each

module _ {A B : Type 0} (start : List Token → List A → Type 0) (step : List Token → B → Type 0) (item : B → A) where
  abbrev Item : List Token → A → Type 0
  Item = Built (λ tokens b. item b) step

  abbrev grow : List Token → List A → B → List A
  grow tokens xs b = xs ++ item b ∷ []

  record Grown (rest : List Token) (a c : List A) : Type 0 where
    more : List A
    is : c ≡ a ++ more
    items : Each Item rest more

  steps_out : (front : List Token) (a : List A) (rest : List Token) (c : List A) → Steps step grow front a rest c → Grown rest a c
  steps_out front a rest c ends = record { more = []; is = sym (append-nil a); items = refl }
  steps_out front a rest c (steps back behind b d s h) =
      let g = steps_out (front ++ back) (a ++ item b ∷ []) behind c h in
      record { more = item b ∷ g.more; is = g.is ∙ append_assoc a (item b ∷ []) g.more; items = (back, behind, refl, record { of = b; is = refl; phrase = s }, g.items) }

  pub record Begun (u : List Token) (xs : List A) : Type 0 where
    pub first : List A
    pub more : List A
    pub is : xs ≡ first ++ more
    pub both : Both start (Each Item) u (first, more)

  pub repeat_out : (u : List Token) (xs : List A) → Repeat start step grow u xs → Begun u xs
  repeat_out u xs r =
      let g = steps_out r.front r.first r.rest xs r.goes_on in
      record { first = r.first; more = g.more; is = g.is; both = record { front = r.front; back = r.rest; cut = r.cut; left = r.begins; right = g.items } }

  steps_in : (front : List Token) (a : List A) (rest : List Token) (more : List A) → Each Item rest more → Steps step grow front a rest (a ++ more)
  steps_in front a rest [] e = subst (λ l. Steps step grow front a l (a ++ [])) (sym e) (subst (λ c. Steps step grow front a [] c) (sym (append-nil a)) ends)
  steps_in front a rest (x ∷ more) e =
      let one = e.3 in
      let h : Steps step grow (front ++ e.0) (a ++ item one.of ∷ []) e.1 ((a ++ item one.of ∷ []) ++ more) = steps_in (front ++ e.0) (a ++ item one.of ∷ []) e.1 more e.4 in
      let same : (a ++ item one.of ∷ []) ++ more ≡ a ++ x ∷ more = append_assoc a (item one.of ∷ []) more ∙ ap (λ z. a ++ z ∷ more) (sym one.is) in
      subst (λ l. Steps step grow front a l (a ++ x ∷ more)) (sym e.2)
      (steps e.0 e.1 one.of (a ++ x ∷ more) one.phrase (subst (λ c. Steps step grow (front ++ e.0) (a ++ item one.of ∷ []) e.1 c) same h))

  pub repeat_in : (u : List Token) (first more : List A) → Both start (Each Item) u (first, more) → Repeat start step grow u (first ++ more)
  repeat_in u first more b = record { front = b.front; rest = b.back; first = first; cut = b.cut; begins = b.left; goes_on = steps_in b.front first b.back more b.right }

-- ---- lists with commas

module _ {A : Type 0} (L : List Token → A → Type 0) (R : A → A → Type 0) where
  abbrev Rest : List Token → List A → Type 0
  Rest = Each (After m.Comma L)

  abbrev Comma_ : List Token → Unit {0} × A → Type 0
  Comma_ = Both (One (kernel (mark m.Comma))) L

  first_item : (u : List Token) (a : A) (rest : List A) → ListOf L u (a ∷ rest) → Both L Rest u (a, rest)
  first_item u a rest d =
      let g = repeat_out (Alone L) Comma_ (λ p. p.1) u (a ∷ rest) d in
      let one = g.both.left in
      let e : a ∷ rest ≡ one.of ∷ g.more = g.is ∙ ap (λ l. l ++ g.more) one.is in
      let first : one.of ≡ a = cc in
      let last : g.more ≡ rest = cc in
      record { front = g.both.front; back = g.both.back; cut = g.both.cut; left = subst (λ z. L g.both.front z) first one.phrase; right = subst (λ z. Rest g.both.back z) last g.both.right }

  pub prints_list : (a : A) (rest : List A) (x y : List ℕ) → Prints L R a x → Prints Rest (Pairwise R) rest y → Prints (ListOf L) (Pairwise R) (a ∷ rest) (x ++ y)
  prints_list a rest x y f g has =
      spoken_map (Again (Both L Rest) (Paired R (Pairwise R)) (a, rest)) (Again (ListOf L) (Pairwise R) (a ∷ rest)) (x ++ y)
      (λ ts w. record {
        other = w.other.0 ∷ w.other.1;
        phrase = repeat_in (Alone L) Comma_ (λ p. p.1) ts (w.other.0 ∷ []) w.other.1 (record { front = w.phrase.front; back = w.phrase.back; cut = w.phrase.cut; left = record { of = w.other.0; is = refl; phrase = w.phrase.left }; right = w.phrase.right });
        same = (w.same.0, w.same.1);
      })
      (prints_both L Rest R (Pairwise R) (a, rest) x y f g (record { tokens = has.tokens; plain = has.plain; phrase = first_item has.tokens a rest has.phrase }))

  pub no_list : (u : List Token) → ListOf L u [] → ⊥
  no_list u d =
      let g = repeat_out (Alone L) Comma_ (λ p. p.1) u [] d in
      let e : [] ≡ g.both.left.of ∷ g.more = g.is ∙ ap (λ l. l ++ g.more) g.both.left.is in
      cc

  pub prints_no_list : Prints (ListOf L) (Pairwise R) [] []
  prints_no_list has = absurd (no_list has.tokens has.phrase)

-- ---- lists without commas

module _ {A : Type 0} (L : List Token → A → Type 0) where
  abbrev Same_ : List Token → A → Type 0
  Same_ = Built (λ tokens x. x) L

  plain_item : (u : List Token) (a : A) → Same_ u a → L u a
  plain_item u a d = subst (λ z. L u z) (sym d.is) d.phrase

  built_item : (u : List Token) (a : A) → L u a → Same_ u a
  built_item u a d = record { of = a; is = refl; phrase = d }

  pub all_items : (u : List Token) (xs : List A) → MoreOf (Alone L) L u xs → Each L u xs
  all_items u xs d =
      let g = repeat_out (Alone L) L (λ x. x) u xs d in
      let one = g.both.left in
      subst (λ z. Each L u z) (sym (g.is ∙ ap (λ l. l ++ g.more) one.is)) (g.both.front, g.both.back, g.both.cut, one.phrase, each_map Same_ L plain_item g.both.back g.more g.both.right)

  some_items : (u : List Token) (a : A) (more : List A) → Each L u (a ∷ more) → MoreOf (Alone L) L u (a ∷ more)
  some_items u a more e = repeat_in (Alone L) L (λ x. x) u (a ∷ []) more (record { front = e.0; back = e.1; cut = e.2; left = record { of = a; is = refl; phrase = e.3 }; right = each_map L Same_ built_item e.1 more e.4 })

  some_again : (R : A → A → Type 0) (u ts : List Token) (xs ys : List A) → MoreOf (Alone L) L u xs → Pairwise R xs ys → Each L ts ys → MoreOf (Alone L) L ts ys
  some_again R u ts xs (y ∷ ys) d p e = some_items ts y ys e
  some_again R u ts (x ∷ xs) [] d p e = absurd p
  some_again R u ts [] [] d p e = absurd (
      let g = repeat_out (Alone L) L (λ x. x) u [] d in
      let c : [] ≡ g.both.left.of ∷ g.more = g.is ∙ ap (λ l. l ++ g.more) g.both.left.is in
      cc)

  pub prints_one_or_more : (R : A → A → Type 0) (xs : List A) (x : List ℕ) → Prints (Each L) (Pairwise R) xs x → Prints (MoreOf (Alone L) L) (Pairwise R) xs x
  prints_one_or_more R xs x f has =
      spoken_map (Again (Each L) (Pairwise R) xs) (Again (MoreOf (Alone L) L) (Pairwise R) xs) x
      (λ ts w. record { other = w.other; phrase = some_again R has.tokens ts xs w.other has.phrase w.same w.phrase; same = w.same })
      (f (record { tokens = has.tokens; plain = has.plain; phrase = all_items has.tokens xs has.phrase }))

  -- ---- at least two

  abbrev Pair : List Token → List A → Type 0
  Pair = Built (λ tokens p. p.0 ∷ p.1 ∷ []) (Both L L)

  two_cut : (u : List Token) (xs : List A) → (g : Begun Pair L (λ x. x) u xs) → xs ≡ g.both.left.of.0 ∷ g.both.left.of.1 ∷ g.more
  two_cut u xs g = g.is ∙ ap (λ l. l ++ g.more) g.both.left.is

  pub all_two : (u : List Token) (xs : List A) → MoreOf Pair L u xs → Each L u xs
  all_two u xs d =
      let g = repeat_out Pair L (λ x. x) u xs d in
      let pair = g.both.left.phrase in
      subst (λ z. Each L u z) (sym (two_cut u xs g)) (
        pair.front,
        pair.back ++ g.both.back,
        g.both.cut ∙ ap (λ l. l ++ g.both.back) pair.cut ∙ append_assoc pair.front pair.back g.both.back,
        pair.left,
        (pair.back, g.both.back, refl, pair.right, each_map Same_ L plain_item g.both.back g.more g.both.right),
      )

  two_items : (u : List Token) (a b : A) (more : List A) → Each L u (a ∷ b ∷ more) → MoreOf Pair L u (a ∷ b ∷ more)
  two_items u a b more e =
      let d = e.4 in
      repeat_in Pair L (λ x. x) u (a ∷ b ∷ []) more (record {
        front = e.0 ++ d.0;
        back = d.1;
        cut = e.2 ∙ ap (λ l. e.0 ++ l) d.2 ∙ sym (append_assoc e.0 d.0 d.1);
        left = record { of = (a, b); is = refl; phrase = record { front = e.0; back = d.0; cut = refl; left = e.3; right = d.3 } };
        right = each_map L Same_ built_item d.1 more d.4;
      })

  two_again : (R : A → A → Type 0) (u ts : List Token) (xs ys : List A) → MoreOf Pair L u xs → Pairwise R xs ys → Each L ts ys → MoreOf Pair L ts ys
  two_again R u ts xs (y ∷ z ∷ ys) d p e = two_items ts y z ys e
  two_again R u ts (x ∷ xs) [] d p e = absurd p
  two_again R u ts [] (y ∷ []) d p e = absurd p
  two_again R u ts (x ∷ w ∷ xs) (y ∷ []) d p e = absurd p.1
  two_again R u ts (x ∷ []) (y ∷ []) d p e = absurd (let g = repeat_out Pair L (λ x. x) u (x ∷ []) d in let c = two_cut u (x ∷ []) g in cc)
  two_again R u ts [] [] d p e = absurd (let g = repeat_out Pair L (λ x. x) u [] d in let c = two_cut u [] g in cc)

  pub prints_two_or_more : (R : A → A → Type 0) (xs : List A) (x : List ℕ) → Prints (Each L) (Pairwise R) xs x → Prints (MoreOf Pair L) (Pairwise R) xs x
  prints_two_or_more R xs x f has =
      spoken_map (Again (Each L) (Pairwise R) xs) (Again (MoreOf Pair L) (Pairwise R) xs) x
      (λ ts w. record { other = w.other; phrase = two_again R has.tokens ts xs w.other has.phrase w.same w.phrase; same = w.same })
      (f (record { tokens = has.tokens; plain = has.plain; phrase = all_two has.tokens xs has.phrase }))

-- ---- in a loop

pub items_begin : {A : Type 0} (P : List Token → A → Type 0) (R : A → A → Type 0) (old : List ℕ) → Adds old old (Prints (Each P) (Pairwise R) [])
items_begin P R old = adds_nothing old (Prints (Each P) (Pairwise R) []) (prints_no_items P R)

pub items_on : {A : Type 0} (P : List Token → A → Type 0) (R : A → A → Type 0) (old mid new : List ℕ) (xs : List A) (n : ℕ) (a : A) → n < length xs → a ≡ get_or xs n a
    → Adds old mid (Prints (Each P) (Pairwise R) (take n xs)) → Adds mid new (Prints P R a) → Adds old new (Prints (Each P) (Pairwise R) (take (n + 1) xs))
items_on P R old mid new xs n a h e x y =
    subst (λ z. Adds old new (Prints (Each P) (Pairwise R) z)) (sym (take_more xs n a h ∙ ap (λ z. take n xs ++ z ∷ []) (sym e)))
    (adds_both old mid new (Prints (Each P) (Pairwise R) (take n xs)) (Prints P R a) (Prints (Each P) (Pairwise R) (take n xs ++ a ∷ [])) x y (λ u v p q. prints_item_more P R (take n xs) a u v p q))

pub items_whole : {A : Type 0} (P : List Token → A → Type 0) (R : A → A → Type 0) (old new : List ℕ) (xs : List A) (n : ℕ) → length xs ≤ n → Adds old new (Prints (Each P) (Pairwise R) (take n xs)) → Adds old new (Prints (Each P) (Pairwise R) xs)
items_whole P R old new xs n h x = subst (λ z. Adds old new (Prints (Each P) (Pairwise R) z)) (take_all n xs h) x

-- ---- the same where levels of nesting are open

pub deep_begin : {A : Type 0} (P : ℕ → List Token → A → Type 0) (R : A → A → Type 0) (old : List ℕ) → Adds old old (λ x. (room : ℕ) → Prints (Each (P room)) (Pairwise R) [] x)
deep_begin P R old = adds_nothing old (λ x. (room : ℕ) → Prints (Each (P room)) (Pairwise R) [] x) (λ room. prints_no_items (P room) R)

pub deep_on : {A : Type 0} (P : ℕ → List Token → A → Type 0) (R : A → A → Type 0) (old mid new : List ℕ) (xs : List A) (n : ℕ) (a : A) → n < length xs → a ≡ get_or xs n a
    → Adds old mid (λ x. (room : ℕ) → Prints (Each (P room)) (Pairwise R) (take n xs) x) → Adds mid new (λ x. (room : ℕ) → Prints (P room) R a x) → Adds old new (λ x. (room : ℕ) → Prints (Each (P room)) (Pairwise R) (take (n + 1) xs) x)
deep_on P R old mid new xs n a h e x y =
    subst (λ z. Adds old new (λ x. (room : ℕ) → Prints (Each (P room)) (Pairwise R) z x)) (sym (take_more xs n a h ∙ ap (λ z. take n xs ++ z ∷ []) (sym e)))
    (adds_both old mid new (λ x. (room : ℕ) → Prints (Each (P room)) (Pairwise R) (take n xs) x) (λ x. (room : ℕ) → Prints (P room) R a x) (λ x. (room : ℕ) → Prints (Each (P room)) (Pairwise R) (take n xs ++ a ∷ []) x) x y
    (λ u v p q room. prints_item_more (P room) R (take n xs) a u v (p room) (q room)))

pub deep_whole : {A : Type 0} (P : ℕ → List Token → A → Type 0) (R : A → A → Type 0) (old new : List ℕ) (xs : List A) (n : ℕ) → length xs ≤ n → Adds old new (λ x. (room : ℕ) → Prints (Each (P room)) (Pairwise R) (take n xs) x) → Adds old new (λ x. (room : ℕ) → Prints (Each (P room)) (Pairwise R) xs x)
deep_whole P R old new xs n h x = subst (λ z. Adds old new (λ x. (room : ℕ) → Prints (Each (P room)) (Pairwise R) z x)) (take_all n xs h) x
