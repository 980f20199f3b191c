-- Operators that group from the left: what the last step of such a phrase is.
use Rattle.std.proofs.Common.{◌≡◌, Option, List, [], ◌++◌, refl, sym, ◌∙◌, ap, subst, append_assoc, append-nil}
use Rattle.sp_lex.specs.declared.token.Token.{Token}
use Rattle.sp_lex.specs.declared.token.Kernel.{Kernel}
use Rattle.sp_query.specs.declared.tree.Tree.{Tree}
use Rattle.sp_query.specs.declared.tree.Node.{Node}
use Rattle.sp_query.specs.Phrase.{One, Both, Either, left, right, Steps, ends, steps, Repeat}
use Rattle.sp_query.specs.Grammar.{kernel, joined, Grouped}
use Rattle.sp_syntax.specs.Printing.{Infix}

-- one step more
steps_more : {A B : Type 0} (step : List Token → B → Type 0) (join : List Token → A → B → A) (front : List Token) (a : A) (rest : List Token) (c : A) (back : List Token) (b : B) → Steps step join front a rest c → step back b
    → Steps step join front a (rest ++ back) (join (front ++ (rest ++ back)) c b)
steps_more step join front a rest c back b ends s =
    subst (λ l. Steps step join front a l (join (front ++ back) a b)) (append-nil back) (steps back [] b (join (front ++ back) a b) s ends)
steps_more step join front a rest c back b (steps here more d e g h) s =
    let i : Steps step join (front ++ here) (join (front ++ here) a d) (more ++ back) (join ((front ++ here) ++ (more ++ back)) c b) = steps_more step join (front ++ here) (join (front ++ here) a d) more c back b h s in
    let j : (front ++ here) ++ (more ++ back) ≡ front ++ ((here ++ more) ++ back) = append_assoc front here (more ++ back) ∙ ap (λ l. front ++ l) (sym (append_assoc here more back)) in
    subst (λ l. Steps step join front a l (join (front ++ ((here ++ more) ++ back)) c b)) (sym (append_assoc here more back))
    (steps here (more ++ back) d (join (front ++ ((here ++ more) ++ back)) c b) g (subst (λ l. Steps step join (front ++ here) (join (front ++ here) a d) (more ++ back) (join l c b)) j i))

pub repeat_more : {A B : Type 0} (start : List Token → A → Type 0) (step : List Token → B → Type 0) (join : List Token → A → B → A) (front back : List Token) (a : A) (b : B) → Repeat start step join front a → step back b → Repeat start step join (front ++ back) (join (front ++ back) a b)
repeat_more start step join front back a b r s =
    let e : front ++ back ≡ r.front ++ (r.rest ++ back) = ap (λ l. l ++ back) r.cut ∙ append_assoc r.front r.rest back in
    record {
      front = r.front;
      rest = r.rest ++ back;
      first = r.first;
      cut = e;
      begins = r.begins;
      goes_on = subst (λ l. Steps step join r.front r.first (r.rest ++ back) (join l a b)) (sym e) (steps_more step join r.front r.first r.rest a back b r.goes_on s);
    }

pub repeat_one : {A B : Type 0} (start : List Token → A → Type 0) (step : List Token → B → Type 0) (join : List Token → A → B → A) (u : List Token) (a : A) → start u a → Repeat start step join u a
repeat_one start step join u a s = record { front = u; rest = []; first = a; cut = sym (append-nil u); begins = s; goes_on = ends }

module _ (L : List Token → Tree → Type 0) (op : Kernel → Option Node) where
  pub group_one : (u : List Token) (t : Tree) → L u t → Grouped L op u t
  group_one u t d = repeat_one L (Both (One (kernel op)) L) joined u t d

  pub group_infix : (u : List Token) (t : Tree) → Infix (Grouped L op) op L u t → Grouped L op u t
  group_infix u t d =
      let both = d.phrase in
      let g : Grouped L op (both.front ++ both.back) (joined (both.front ++ both.back) d.of.0 d.of.1) = repeat_more L (Both (One (kernel op)) L) joined both.front both.back d.of.0 d.of.1 both.left both.right in
      subst (λ x. Grouped L op u x) (sym d.is) (subst (λ l. Grouped L op l (joined l d.of.0 d.of.1)) (sym both.cut) g)

  last_of : (front : List Token) (first : Tree) (rest : List Token) (t : Tree) → Grouped L op front first → Either L (Infix (Grouped L op) op L) front first → Steps (Both (One (kernel op)) L) joined front first rest t
      → Either L (Infix (Grouped L op) op L) (front ++ rest) t
  last_of front first rest t g e ends = subst (λ l. Either L (Infix (Grouped L op) op L) l first) (sym (append-nil front)) e
  last_of front first rest t g e (steps back more b c s h) =
      let i : Either L (Infix (Grouped L op) op L) ((front ++ back) ++ more) t =
      last_of (front ++ back) (joined (front ++ back) first b) more t (repeat_more L (Both (One (kernel op)) L) joined front back first b g s)
      (right (record { of = (first, b); is = refl; phrase = record { front = front; back = back; cut = refl; left = g; right = s } })) h in
      subst (λ l. Either L (Infix (Grouped L op) op L) l t) (append_assoc front back more) i

  -- Such a phrase is one operand, or such a phrase, an operator and an operand.
  pub group_last : (u : List Token) (t : Tree) → Grouped L op u t → Either L (Infix (Grouped L op) op L) u t
  group_last u t g = subst (λ l. Either L (Infix (Grouped L op) op L) l t) (sym g.cut) (last_of g.front g.first g.rest t (group_one g.front g.first g.begins) (left g.begins) g.goes_on)

-- ---- other operands

steps_map : (L M : List Token → Tree → Type 0) (op : Kernel → Option Node) → ((u : List Token) (t : Tree) → L u t → M u t) → (front : List Token) (a : Tree) (rest : List Token) (c : Tree)
    → Steps (Both (One (kernel op)) L) joined front a rest c → Steps (Both (One (kernel op)) M) joined front a rest c
steps_map L M op f front a rest c ends = ends
steps_map L M op f front a rest c (steps back more b d s h) =
    steps back more b c (record { front = s.front; back = s.back; cut = s.cut; left = s.left; right = f s.back b.1 s.right }) (steps_map L M op f (front ++ back) (joined (front ++ back) a b) more c h)

pub group_map : (L M : List Token → Tree → Type 0) (op : Kernel → Option Node) → ((u : List Token) (t : Tree) → L u t → M u t) → (u : List Token) (t : Tree) → Grouped L op u t → Grouped M op u t
group_map L M op f u t g = record { front = g.front; rest = g.rest; first = g.first; cut = g.cut; begins = f g.front g.first g.begins; goes_on = steps_map L M op f g.front g.first g.rest t g.goes_on }
