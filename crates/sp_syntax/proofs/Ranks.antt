-- Two ranks of operators over phrases that open brackets: what brackets are needed.
use Rattle.std.proofs.Common.{◌≡◌, ◌≢◌, ℕ, zero, suc, ◌+◌, ◌-◌, ◌≤◌, ◌<◌, Option, Some, List, [], ◌∷◌, ◌++◌, refl, sym, ◌∙◌, ap, subst, arith}
use Rattle.sp_lex.specs.declared.token.Token.{Token}
use Rattle.sp_lex.specs.declared.token.Kernel.{Kernel}
use Rattle.sp_query.specs.declared.mark.Mark.{Mark}
use Rattle.sp_query.specs.declared.tree.Tree.{Tree, Tree-F, out-Tree, out-roll-Tree}
use Rattle.sp_query.specs.declared.tree.Node.{Node}
use Rattle.sp_query.specs.Phrase.{One, Both, Either, left, right}
use Rattle.sp_query.specs.Grammar.{kernel, mark, tree, span, Grouped, Applied, Between}
use Rattle.sp_query.specs.Same.{SameTrees, none, some, SameTree}
use Rattle.sp_syntax.specs.Written.{IsSpelled}
use Rattle.sp_syntax.specs.Printing.{ArePlain, Has, Again, Prints, rank, Ranked, root, Rooted, plain_root, sign_root, firm_root, loose_root, Infix}
use Rattle.sp_query.proofs.SameForm.{same_out, same_append}
use Rattle.sp_syntax.proofs.Groups.{group_one, group_infix, group_last, group_map}
use Rattle.sp_syntax.proofs.Speaking.{Unlike, Paired, spoken_map, prints_one, prints_both, prints_built, has_inner, spoken_between}

pub root_of : (node : Node) (parts : List Tree) (ts : List Token) → root (tree node parts ts) ≡ node
root_of node parts ts = ap (λ (r : Tree-F Tree). r.node) (out-roll-Tree (record { node = node; parts = parts; span = span ts }))

pub parts_of : (node : Node) (parts : List Tree) (ts : List Token) → (out-Tree (tree node parts ts)).parts ≡ parts
parts_of node parts ts = ap (λ (r : Tree-F Tree). r.parts) (out-roll-Tree (record { node = node; parts = parts; span = span ts }))

-- Phrases with two ranks of operators over operands, which are plain, signed or in brackets.
pub record Family : Type 1 where
  pub Base : ℕ → List Token → Tree → Type 0
  pub Top : ℕ → List Token → Tree → Type 0
  pub loose : Kernel → Option Node
  pub firm : Kernel → Option Node
  pub pre : Mark
  pub sign : Node
  pub before : Mark
  pub after : Mark
  pub out_zero : (u : List Token) (t : Tree) → Top zero u t → Base zero u t
  pub out_suc : (n : ℕ) (u : List Token) (t : Tree) → Top (suc n) u t → Either (Base (suc n)) (Either (Applied pre sign (Top n)) (Between before (Grouped (Grouped (Top n) firm) loose) after)) u t
  pub in_base : (n : ℕ) (u : List Token) (t : Tree) → Base n u t → Top n u t
  pub in_sign : (n : ℕ) (u : List Token) (t : Tree) → Applied pre sign (Top n) u t → Top (suc n) u t
  pub in_brackets : (n : ℕ) (u : List Token) (t : Tree) → Between before (Grouped (Grouped (Top n) firm) loose) after u t → Top (suc n) u t
  pub base_more : (n : ℕ) (u : List Token) (t : Tree) → Base n u t → Base (suc n) u t
  pub loose_rank : (k : Kernel) (o : Node) → loose k ≡ Some o → rank o ≡ 0
  pub firm_rank : (k : Kernel) (o : Node) → firm k ≡ Some o → rank o ≡ 1
  pub sign_rank : rank sign ≡ 2
  pub base_rank : (n : ℕ) (u : List Token) (t : Tree) → Base n u t → rank (root t) ≡ 2
  pub base_other : (n : ℕ) (u : List Token) (t : Tree) → Base n u t → root t ≡ sign → ⊥

module _ (F : Family) where
  abbrev pub At : ℕ → ℕ → List Token → Tree → Type 0
  At level room = Ranked F.loose F.firm F.Top level room

  abbrev pub RootOf : ℕ → List Token → Tree → Type 0
  RootOf = Rooted F.Base F.Top F.loose F.firm F.pre F.sign

  pub infix_root : (L M : List Token → Tree → Type 0) (op : Kernel → Option Node) (u : List Token) (t : Tree) → Infix L op M u t → (k : Kernel) × (op k ≡ Some (root t))
  infix_root L M op u t d =
      let one = d.phrase.right.left in
      (one.token.kernel, one.is ∙ ap (λ x. Some x) (sym (ap root d.is ∙ root_of d.of.1.0 (d.of.0 ∷ d.of.1.1 ∷ []) u)))

  firm_is : (room : ℕ) (u : List Token) (t : Tree) → Infix (Grouped (F.Top room) F.firm) F.firm (F.Top room) u t → rank (root t) ≡ 1
  firm_is room u t d = let i = infix_root (Grouped (F.Top room) F.firm) (F.Top room) F.firm u t d in F.firm_rank i.0 (root t) i.1

  loose_is : (room : ℕ) (u : List Token) (t : Tree) → Infix (Grouped (Grouped (F.Top room) F.firm) F.loose) F.loose (Grouped (F.Top room) F.firm) u t → rank (root t) ≡ 0
  loose_is room u t d = let i = infix_root (Grouped (Grouped (F.Top room) F.firm) F.loose) (Grouped (F.Top room) F.firm) F.loose u t d in F.loose_rank i.0 (root t) i.1

  pub sign_root_of : (L : List Token → Tree → Type 0) (u : List Token) (t : Tree) → Applied F.pre F.sign L u t → root t ≡ F.sign
  sign_root_of L u t d = ap root d.is ∙ root_of F.sign (d.of.1 ∷ []) u

  -- Within the brackets round a tree stands its root.
  pub record Peeled (level room : ℕ) (t : Tree) : Type 0 where
    pub below : ℕ
    pub rooted : Has (RootOf below) t
    pub within : below ≤ room
    pub bracketed : rank (root t) < level → below < room

  loosen : (level lower room : ℕ) (t : Tree) → lower ≤ level → Peeled level room t → Peeled lower room t
  loosen level lower room t h p = record { below = p.below; rooted = p.rooted; within = p.within; bracketed = λ l. p.bracketed (omega arith) }

  peel_firm : (room : ℕ) (t : Tree) → ((u : List Token) → ArePlain u → F.Top room u t → Peeled 2 room t) → (u : List Token) → ArePlain u → Grouped (F.Top room) F.firm u t → Peeled 1 room t
  peel_firm room t f u p g = elim (group_last (F.Top room) F.firm u t g) [
    | left d ↦ loosen 2 1 room t (omega arith) (f u p d)
    | right d ↦ record { below = room; rooted = record { tokens = u; plain = p; phrase = firm_root d }; within = omega arith; bracketed = λ l. absurd (let e : rank (root t) ≡ 1 = firm_is room u t d in omega arith) }
  ]

  peel_loose : (room : ℕ) (t : Tree) → ((u : List Token) → ArePlain u → F.Top room u t → Peeled 2 room t) → (u : List Token) → ArePlain u → Grouped (Grouped (F.Top room) F.firm) F.loose u t → Peeled 0 room t
  peel_loose room t f u p g = elim (group_last (Grouped (F.Top room) F.firm) F.loose u t g) [
    | left d ↦ loosen 1 0 room t (omega arith) (peel_firm room t f u p d)
    | right d ↦ record { below = room; rooted = record { tokens = u; plain = p; phrase = loose_root d }; within = omega arith; bracketed = λ l. absurd (omega arith) }
  ]

  top_base : (room : ℕ) (u : List Token) (t : Tree) → ArePlain u → F.Base room u t → Peeled 2 room t
  top_base room u t p d = record { below = room; rooted = record { tokens = u; plain = p; phrase = plain_root d }; within = omega arith; bracketed = λ l. absurd (let e : rank (root t) ≡ 2 = F.base_rank room u t d in omega arith) }

  top_sign : (room : ℕ) (u : List Token) (t : Tree) → ArePlain u → Applied F.pre F.sign (F.Top room) u t → Peeled 2 (suc room) t
  top_sign room u t p d = record {
    below = suc room;
    rooted = record { tokens = u; plain = p; phrase = sign_root room refl d };
    within = omega arith;
    bracketed = λ l. absurd (let e : rank (root t) ≡ 2 = ap rank (sign_root_of (F.Top room) u t d) ∙ F.sign_rank in omega arith);
  }

  deeper : (room : ℕ) (t : Tree) → Peeled 0 room t → Peeled 2 (suc room) t
  deeper room t p = let h : p.below ≤ room = p.within in record { below = p.below; rooted = p.rooted; within = omega arith; bracketed = λ l. omega arith }

  peel_top : (room : ℕ) (t : Tree) (u : List Token) → ArePlain u → F.Top room u t → Peeled 2 room t
  peel_top zero t u p d = top_base zero u t p (F.out_zero u t d)
  peel_top (suc room) t u p d = elim (F.out_suc room u t d) [
    | left b ↦ top_base (suc room) u t p b
    | right e ↦ elim e [
      | left s ↦ top_sign room u t p s
      | right w ↦ (let i = has_inner F.before (Grouped (Grouped (F.Top room) F.firm) F.loose) F.after t (record { tokens = u; plain = p; phrase = w }) in deeper room t (peel_loose room t (peel_top room t) i.tokens i.plain i.phrase))
    ]
  ]

  pub peel : (level room : ℕ) (t : Tree) → level ≤ 2 → Has (At level room) t → Peeled level room t
  peel zero room t h d = peel_loose room t (peel_top room t) d.tokens d.plain d.phrase
  peel (suc zero) room t h d = peel_firm room t (peel_top room t) d.tokens d.plain d.phrase
  peel (suc (suc zero)) room t h d = peel_top room t d.tokens d.plain d.phrase
  peel (suc (suc (suc n))) room t h d = absurd (omega arith)

  -- ---- more room, and lower ranks

  applied_map : (L M : List Token → Tree → Type 0) → ((u : List Token) (t : Tree) → L u t → M u t) → (u : List Token) (t : Tree) → Applied F.pre F.sign L u t → Applied F.pre F.sign M u t
  applied_map L M f u t d = record { of = d.of; is = d.is; phrase = record { front = d.phrase.front; back = d.phrase.back; cut = d.phrase.cut; left = d.phrase.left; right = f d.phrase.back d.of.1 d.phrase.right } }

  between_map : (L M : List Token → Tree → Type 0) → ((u : List Token) (t : Tree) → L u t → M u t) → (u : List Token) (t : Tree) → Between F.before L F.after u t → Between F.before M F.after u t
  between_map L M f u t d =
      let p = d.phrase in
      let q = p.right in
      record { of = d.of; is = d.is; phrase = record { front = p.front; back = p.back; cut = p.cut; left = p.left; right = record { front = q.front; back = q.back; cut = q.cut; left = f q.front d.of.1.0 q.left; right = q.right } } }

  loose_map : (L M : List Token → Tree → Type 0) → ((u : List Token) (t : Tree) → L u t → M u t) → (u : List Token) (t : Tree) → Grouped (Grouped L F.firm) F.loose u t → Grouped (Grouped M F.firm) F.loose u t
  loose_map L M f = group_map (Grouped L F.firm) (Grouped M F.firm) F.loose (group_map L M F.firm f)

  top_more : (room : ℕ) (u : List Token) (t : Tree) → F.Top room u t → F.Top (suc room) u t
  top_more zero u t d = F.in_base (suc zero) u t (F.base_more zero u t (F.out_zero u t d))
  top_more (suc room) u t d = elim (F.out_suc room u t d) [
    | left b ↦ F.in_base (suc (suc room)) u t (F.base_more (suc room) u t b)
    | right e ↦ elim e [
      | left s ↦ F.in_sign (suc room) u t (applied_map (F.Top room) (F.Top (suc room)) (top_more room) u t s)
      | right w ↦ F.in_brackets (suc room) u t (between_map (Grouped (Grouped (F.Top room) F.firm) F.loose) (Grouped (Grouped (F.Top (suc room)) F.firm) F.loose) (loose_map (F.Top room) (F.Top (suc room)) (top_more room)) u t w)
    ]
  ]

  at_map : (level room more : ℕ) → ((u : List Token) (t : Tree) → F.Top room u t → F.Top more u t) → (u : List Token) (t : Tree) → At level room u t → At level more u t
  at_map zero room more f = loose_map (F.Top room) (F.Top more) f
  at_map (suc zero) room more f = group_map (F.Top room) (F.Top more) F.firm f
  at_map (suc (suc n)) room more f = f

  top_plus : (extra room more : ℕ) → more ≡ extra + room → (u : List Token) (t : Tree) → F.Top room u t → F.Top more u t
  top_plus zero room more e u t d = subst (λ z. F.Top z u t) (let h : room ≡ more = omega arith in h) d
  top_plus (suc extra) room more e u t d = subst (λ z. F.Top z u t) (let h : suc (extra + room) ≡ more = omega arith in h) (top_more (extra + room) u t (top_plus extra room (extra + room) refl u t d))

  pub at_more : (level room more : ℕ) → room ≤ more → (u : List Token) (t : Tree) → At level room u t → At level more u t
  at_more level room more h = at_map level room more (top_plus (more - room) room more (omega arith))

  lift_firm : (level room : ℕ) (u : List Token) (t : Tree) → level ≤ 1 → Grouped (F.Top room) F.firm u t → At level room u t
  lift_firm zero room u t h d = group_one (Grouped (F.Top room) F.firm) F.loose u t d
  lift_firm (suc zero) room u t h d = d
  lift_firm (suc (suc n)) room u t h d = absurd (omega arith)

  lift_top : (level room : ℕ) (u : List Token) (t : Tree) → F.Top room u t → At level room u t
  lift_top zero room u t d = lift_firm zero room u t (omega arith) (group_one (F.Top room) F.firm u t d)
  lift_top (suc zero) room u t d = group_one (F.Top room) F.firm u t d
  lift_top (suc (suc n)) room u t d = d

  lift_loose : (level room : ℕ) (u : List Token) (t : Tree) → level ≤ 0 → Grouped (Grouped (F.Top room) F.firm) F.loose u t → At level room u t
  lift_loose zero room u t h d = d
  lift_loose (suc n) room u t h d = absurd (omega arith)

  rooted_at : (level room : ℕ) (u : List Token) (t : Tree) → level ≤ rank (root t) → RootOf room u t → At level room u t
  rooted_at level room u t h (plain_root d) = lift_top level room u t (F.in_base room u t d)
  rooted_at level room u t h (sign_root below e d) = lift_top level room u t (subst (λ z. F.Top z u t) (sym e) (F.in_sign below u t d))
  rooted_at level room u t h (firm_root d) = lift_firm level room u t (let e : rank (root t) ≡ 1 = firm_is room u t d in omega arith) (group_infix (F.Top room) F.firm u t d)
  rooted_at level room u t h (loose_root d) = lift_loose level room u t (let e : rank (root t) ≡ 0 = loose_is room u t d in omega arith) (group_infix (Grouped (F.Top room) F.firm) F.loose u t d)

  -- ---- what a writing function shows

  abbrev pub PrintsRoot : Tree → List ℕ → Type 0
  PrintsRoot t x = (room : ℕ) → Prints (RootOf room) SameTree t x

  root_same : (t u : Tree) → SameTree t u → rank (root u) ≡ rank (root t)
  root_same t u s = ap rank (sym (same_out t u s).0)

  -- Where the root binds firmly enough, it needs no brackets.
  pub prints_bare : (level : ℕ) (t : Tree) (x : List ℕ) → level ≤ 2 → level ≤ rank (root t) → PrintsRoot t x → (room : ℕ) → Prints (At level room) SameTree t x
  prints_bare level t x low h f room has =
      let p = peel level room t low has in
      spoken_map (Again (RootOf p.below) SameTree t) (Again (At level room) SameTree t) x
      (λ ts a. record {
        other = a.other;
        phrase = at_more level p.below room p.within ts a.other (rooted_at level p.below ts a.other (let e : rank (root a.other) ≡ rank (root t) = root_same t a.other a.same in omega arith) a.phrase);
        same = a.same;
      })
      (f p.below p.rooted)

  in_brackets_at : (level below room : ℕ) (u : List Token) (t : Tree) → below < room → Between F.before (RootOf below) F.after u t → At level room u t
  in_brackets_at level below zero u t h d = absurd (omega arith)
  in_brackets_at level below (suc room) u t h d =
      lift_top level (suc room) u t (F.in_brackets room u t (between_map (RootOf below) (Grouped (Grouped (F.Top room) F.firm) F.loose) (λ v s r. at_more 0 below room (omega arith) v s (rooted_at 0 below v s (omega arith) r)) u t d))

  -- In brackets the root may be any.
  pub prints_bracketed : (level : ℕ) (t : Tree) (x front back : List ℕ) (k m : Kernel) → level ≤ 2 → rank (root t) < level → mark F.before k ≡ Some tt → IsSpelled k front → mark F.after m ≡ Some tt → IsSpelled m back → PrintsRoot t x
      → (room : ℕ) → Prints (At level room) SameTree t ((front ++ 32 ∷ []) ++ (x ++ (back ++ 32 ∷ [])))
  prints_bracketed level t x front back k m low h e s d r f room has =
      let p = peel level room t low has in
      let deep : p.below < room = p.bracketed h in
      spoken_map (Again (Between F.before (RootOf p.below) F.after) SameTree t) (Again (At level room) SameTree t) ((front ++ 32 ∷ []) ++ (x ++ (back ++ 32 ∷ [])))
      (λ ts a. record { other = a.other; phrase = in_brackets_at level p.below room ts a.other deep a.phrase; same = a.same })
      (spoken_between F.before (RootOf p.below) F.after SameTree t k m front back x e s d r (f p.below p.rooted))

  -- ---- roots by their kind

  pub firm_of : (room : ℕ) (t : Tree) → rank (root t) ≡ 1 → Has (RootOf room) t → Has (Infix (Grouped (F.Top room) F.firm) F.firm (F.Top room)) t
  firm_of room t e h = record {
    tokens = h.tokens;
    plain = h.plain;
    phrase = elim h.phrase [
      | plain_root d ↦ absurd (let i : rank (root t) ≡ 2 = F.base_rank room h.tokens t d in omega arith)
      | sign_root below is d ↦ absurd (let i : rank (root t) ≡ 2 = ap rank (sign_root_of (F.Top below) h.tokens t d) ∙ F.sign_rank in omega arith)
      | firm_root d ↦ d
      | loose_root d ↦ absurd (let i : rank (root t) ≡ 0 = loose_is room h.tokens t d in omega arith)
    ];
  }

  pub loose_of : (room : ℕ) (t : Tree) → rank (root t) ≡ 0 → Has (RootOf room) t → Has (Infix (Grouped (Grouped (F.Top room) F.firm) F.loose) F.loose (Grouped (F.Top room) F.firm)) t
  loose_of room t e h = record {
    tokens = h.tokens;
    plain = h.plain;
    phrase = elim h.phrase [
      | plain_root d ↦ absurd (let i : rank (root t) ≡ 2 = F.base_rank room h.tokens t d in omega arith)
      | sign_root below is d ↦ absurd (let i : rank (root t) ≡ 2 = ap rank (sign_root_of (F.Top below) h.tokens t d) ∙ F.sign_rank in omega arith)
      | firm_root d ↦ absurd (let i : rank (root t) ≡ 1 = firm_is room h.tokens t d in omega arith)
      | loose_root d ↦ d
    ];
  }

  -- a sign, and then an operand
  pub record Signed (room : ℕ) (t : Tree) : Type 0 where
    pub below : ℕ
    pub is : room ≡ suc below
    pub has : Has (Applied F.pre F.sign (F.Top below)) t

  pub sign_of : (room : ℕ) (t : Tree) → root t ≡ F.sign → Has (RootOf room) t → Signed room t
  sign_of room t e h = elim h.phrase [
    | plain_root d ↦ absurd (F.base_other room h.tokens t d e)
    | sign_root below is d ↦ record { below = below; is = is; has = record { tokens = h.tokens; plain = h.plain; phrase = d } }
    | firm_root d ↦ absurd (let i : rank (root t) ≡ 1 = firm_is room h.tokens t d in let j : rank (root t) ≡ 2 = ap rank e ∙ F.sign_rank in omega arith)
    | loose_root d ↦ absurd (let i : rank (root t) ≡ 0 = loose_is room h.tokens t d in let j : rank (root t) ≡ 2 = ap rank e ∙ F.sign_rank in omega arith)
  ]

-- ---- operators with their operands

pub same_roots : (node : Node) (ps qs : List Tree) (u ts : List Token) → SameTrees ps qs → SameTree (tree node ps u) (tree node qs ts)
same_roots node ps qs u ts s = some node (span u) (span ts) ps qs [] [] s none

pub prints_infix : (L M : List Token → Tree → Type 0) (op : Kernel → Option Node) (t a b : Tree) (k : Kernel) (front x y : List ℕ) → op k ≡ Some (root t) → (out-Tree t).parts ≡ a ∷ b ∷ [] → IsSpelled k front
    → Prints L SameTree a x → Prints M SameTree b y → Prints (Infix L op M) SameTree t (x ++ ((front ++ 32 ∷ []) ++ y))
prints_infix L M op t a b k front x y e parts s f g =
    let Equal = λ (p q : Node). p ≡ q in
    prints_built (λ ts p. tree p.1.0 (p.0 ∷ p.1.1 ∷ []) ts) (Both L (Both (One (kernel op)) M)) (Paired SameTree (Paired Equal SameTree)) SameTree t (x ++ ((front ++ 32 ∷ []) ++ y))
    (λ u p is.
    let same : p.0 ∷ p.1.1 ∷ [] ≡ a ∷ b ∷ [] = sym (ap (λ z. (out-Tree z).parts) is ∙ parts_of p.1.0 (p.0 ∷ p.1.1 ∷ []) u) ∙ parts in
    let first : a ≡ p.0 = cc in
    let second : b ≡ p.1.1 = cc in
    let o : root t ≡ p.1.0 = ap root is ∙ root_of p.1.0 (p.0 ∷ p.1.1 ∷ []) u in
    prints_both L (Both (One (kernel op)) M) SameTree (Paired Equal SameTree) p x ((front ++ 32 ∷ []) ++ y) (subst (λ z. Prints L SameTree z x) first f)
    (prints_both (One (kernel op)) M Equal SameTree p.1 (front ++ 32 ∷ []) y (prints_one op Equal p.1.0 k front (e ∙ ap (λ z. Some z) o) s refl) (subst (λ z. Prints M SameTree z y) second g)))
    (λ u ts p q is r. subst (λ z. SameTree z (tree q.1.0 (q.0 ∷ q.1.1 ∷ []) ts)) (sym is)
    (subst (λ o. SameTree (tree p.1.0 (p.0 ∷ p.1.1 ∷ []) u) (tree o (q.0 ∷ q.1.1 ∷ []) ts)) r.1.0
    (same_roots p.1.0 (p.0 ∷ p.1.1 ∷ []) (q.0 ∷ q.1.1 ∷ []) u ts (same_append (p.0 ∷ []) (q.0 ∷ []) r.0 (p.1.1 ∷ []) (q.1.1 ∷ []) r.1.1))))

pub prints_applied : (which : Mark) (node : Node) (L : List Token → Tree → Type 0) (t a : Tree) (k : Kernel) (front x : List ℕ) → mark which k ≡ Some tt → (out-Tree t).parts ≡ a ∷ [] → IsSpelled k front
    → Prints L SameTree a x → Prints (Applied which node L) SameTree t ((front ++ 32 ∷ []) ++ x)
prints_applied which node L t a k front x e parts s f =
    prints_built (λ ts p. tree node (p.1 ∷ []) ts) (Both (One (kernel (mark which))) L) (Paired Unlike SameTree) SameTree t ((front ++ 32 ∷ []) ++ x)
    (λ u p is.
    let same : p.1 ∷ [] ≡ a ∷ [] = sym (ap (λ z. (out-Tree z).parts) is ∙ parts_of node (p.1 ∷ []) u) ∙ parts in
    let first : a ≡ p.1 = cc in
    prints_both (One (kernel (mark which))) L Unlike SameTree p (front ++ 32 ∷ []) x (prints_one (mark which) Unlike tt k front e s tt) (subst (λ z. Prints L SameTree z x) first f))
    (λ u ts p q is r. subst (λ z. SameTree z (tree node (q.1 ∷ []) ts)) (sym is) (same_roots node (p.1 ∷ []) (q.1 ∷ []) u ts r.1))

module _ (F : Family) (t a b : Tree) (k : Kernel) (front x y : List ℕ) (parts : (out-Tree t).parts ≡ a ∷ b ∷ []) (s : IsSpelled k front) where
  pub loose_prints : F.loose k ≡ Some (root t) → ((room : ℕ) → Prints (At F 0 room) SameTree a x) → ((room : ℕ) → Prints (At F 1 room) SameTree b y) → PrintsRoot F t (x ++ ((front ++ 32 ∷ []) ++ y))
  loose_prints e f g room has =
      let L = Grouped (Grouped (F.Top room) F.firm) F.loose in
      let M = Grouped (F.Top room) F.firm in
      spoken_map (Again (Infix L F.loose M) SameTree t) (Again (RootOf F room) SameTree t) (x ++ ((front ++ 32 ∷ []) ++ y))
      (λ ts w. record { other = w.other; phrase = loose_root w.phrase; same = w.same })
      (prints_infix L M F.loose t a b k front x y e parts s (f room) (g room) (loose_of F room t (F.loose_rank k (root t) e) has))

  pub firm_prints : F.firm k ≡ Some (root t) → ((room : ℕ) → Prints (At F 1 room) SameTree a x) → ((room : ℕ) → Prints (At F 2 room) SameTree b y) → PrintsRoot F t (x ++ ((front ++ 32 ∷ []) ++ y))
  firm_prints e f g room has =
      let L = Grouped (F.Top room) F.firm in
      spoken_map (Again (Infix L F.firm (F.Top room)) SameTree t) (Again (RootOf F room) SameTree t) (x ++ ((front ++ 32 ∷ []) ++ y))
      (λ ts w. record { other = w.other; phrase = firm_root w.phrase; same = w.same })
      (prints_infix L (F.Top room) F.firm t a b k front x y e parts s (f room) (g room) (firm_of F room t (F.firm_rank k (root t) e) has))

module _ (F : Family) (t a : Tree) (k : Kernel) (front x : List ℕ) where
  pub sign_prints : (out-Tree t).parts ≡ a ∷ [] → IsSpelled k front → mark F.pre k ≡ Some tt → root t ≡ F.sign → ((room : ℕ) → Prints (At F 2 room) SameTree a x) → PrintsRoot F t ((front ++ 32 ∷ []) ++ x)
  sign_prints parts s m e f room has =
      let g = sign_of F room t e has in
      spoken_map (Again (Applied F.pre F.sign (F.Top g.below)) SameTree t) (Again (RootOf F room) SameTree t) ((front ++ 32 ∷ []) ++ x)
      (λ ts w. record { other = w.other; phrase = sign_root g.below g.is w.phrase; same = w.same })
      (prints_applied F.pre F.sign (F.Top g.below) t a k front x m parts s (f g.below) g.has)

-- ---- trees that come from no text

no_infix : (L M : List Token → Tree → Type 0) (op : Kernel → Option Node) (t : Tree) → ((a b : Tree) → (out-Tree t).parts ≢ a ∷ b ∷ []) → Has (Infix L op M) t → ⊥
no_infix L M op t n h = let d = h.phrase in n d.of.0 d.of.1.1 (ap (λ z. (out-Tree z).parts) d.is ∙ parts_of d.of.1.0 (d.of.0 ∷ d.of.1.1 ∷ []) h.tokens)

pub test_bad : (S : List Token → Tree → Type 0) (op : Kernel → Option Node) (t : Tree) → ((a b : Tree) → (out-Tree t).parts ≢ a ∷ b ∷ []) → Prints (Infix S op S) SameTree t []
test_bad S op t n has = absurd (no_infix S S op t n has)

module _ (F : Family) (t : Tree) where
  pub loose_bad : (k : Kernel) → F.loose k ≡ Some (root t) → ((a b : Tree) → (out-Tree t).parts ≢ a ∷ b ∷ []) → PrintsRoot F t []
  loose_bad k e n room has = absurd (no_infix (Grouped (Grouped (F.Top room) F.firm) F.loose) (Grouped (F.Top room) F.firm) F.loose t n (loose_of F room t (F.loose_rank k (root t) e) has))

  pub firm_bad : (k : Kernel) → F.firm k ≡ Some (root t) → ((a b : Tree) → (out-Tree t).parts ≢ a ∷ b ∷ []) → PrintsRoot F t []
  firm_bad k e n room has = absurd (no_infix (Grouped (F.Top room) F.firm) (F.Top room) F.firm t n (firm_of F room t (F.firm_rank k (root t) e) has))

  pub sign_bad : root t ≡ F.sign → ((a : Tree) → (out-Tree t).parts ≢ a ∷ []) → PrintsRoot F t []
  sign_bad e n room has = absurd (
      let g = sign_of F room t e has in
      let d = g.has.phrase in
      n d.of.1 (ap (λ z. (out-Tree z).parts) d.is ∙ parts_of F.sign (d.of.1 ∷ []) g.has.tokens))

  -- a root that is no operator's and no sign
  pub other_root : ((k : Kernel) → F.loose k ≢ Some (root t)) → ((k : Kernel) → F.firm k ≢ Some (root t)) → root t ≢ F.sign → (room : ℕ) → Has (RootOf F room) t → Has (F.Base room) t
  other_root a b c room h = record {
    tokens = h.tokens;
    plain = h.plain;
    phrase = elim h.phrase [
      | plain_root d ↦ d
      | sign_root below is d ↦ absurd (c (sign_root_of F (F.Top below) h.tokens t d))
      | firm_root d ↦ absurd (let i = infix_root F (Grouped (F.Top room) F.firm) (F.Top room) F.firm h.tokens t d in b i.0 i.1)
      | loose_root d ↦ absurd (let i = infix_root F (Grouped (Grouped (F.Top room) F.firm) F.loose) (Grouped (F.Top room) F.firm) F.loose h.tokens t d in a i.0 i.1)
    ];
  }

  pub other_prints : (x : List ℕ) → ((k : Kernel) → F.loose k ≢ Some (root t)) → ((k : Kernel) → F.firm k ≢ Some (root t)) → root t ≢ F.sign → ((room : ℕ) → Prints (F.Base room) SameTree t x) → PrintsRoot F t x
  other_prints x a b c f room has =
      spoken_map (Again (F.Base room) SameTree t) (Again (RootOf F room) SameTree t) x
      (λ ts w. record { other = w.other; phrase = plain_root w.phrase; same = w.same })
      (f room (other_root a b c room has))
