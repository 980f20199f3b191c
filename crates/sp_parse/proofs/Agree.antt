-- Phrases that agree: in front of one text of tokens they are the same tokens with the same value.
use Rattle.std.proofs.Common.{◌≡◌, Bool, true, false, List, [], ◌∷◌, ◌++◌, Option, Some, None, refl, sym, ◌∙◌, ap, subst, append_assoc}
use Rattle.std.proofs.lemmas.List.{append_cancel_left}
use Rattle.sp_lex.specs.declared.token.Token.{Token}
use Rattle.sp_query.specs.Phrase.{One, Both, Either, left, right, Built, Optional, Steps, ends, steps, Repeat}
use Rattle.sp_parse.specs.Reads.{heads, never, among}
use Rattle.sp_parse.proofs.Reading as r

-- Where no token follows that may go on with them, two phrases in front of the same tokens are one.
abbrev pub Agree : {A : Type 0} → (List Token → A → Type 0) → (List Token → A → Type 0) → (Token → Bool) → Type 0
Agree {A} L M C = (u v y w : List Token) (a b : A) → L u a → M y b → heads C v ≡ false → heads C w ≡ false → u ++ v ≡ y ++ w → (u ≡ y) × (a ≡ b)

-- each such phrase begins with one of these tokens
abbrev pub Starts : {A : Type 0} → (Token → Bool) → (List Token → A → Type 0) → Type 0
Starts {A} F L = (u : List Token) (a : A) → L u a → heads F u ≡ true

-- what follows such a phrase doesn't go on with the one before it
abbrev pub Parts : {A : Type 0} → (List Token → A → Type 0) → (Token → Bool) → (Token → Bool) → Type 0
Parts {A} M C D = (y v : List Token) (b : A) → M y b → heads D v ≡ false → heads C (y ++ v) ≡ false

one_token : {A : Type 0} (f : Token → Option A) (s t : Token) (v w : List Token) (a b : A) → f s ≡ Some a → f t ≡ Some b → s ∷ v ≡ t ∷ w → (s ∷ [] ≡ t ∷ []) × (a ≡ b)
one_token f s t v w a b d e h =
    let same : s ≡ t = cc in
    (cc, cc)

pub one_agrees : {A : Type 0} (f : Token → Option A) → Agree (One f) (One f) never
one_agrees f u v y w a b d e h i same =
    let k = one_token f d.token e.token v w a b d.is e.is (ap (λ l. l ++ v) (sym d.alone) ∙ same ∙ ap (λ l. l ++ w) e.alone) in
    (d.alone ∙ k.0 ∙ sym e.alone, k.1)

pub both_agree : {A B : Type 0} (L L' : List Token → A → Type 0) (M M' : List Token → B → Type 0) (C D : Token → Bool) → Parts M C D → Parts M' C D → Agree L L' C → Agree M M' D → Agree (Both L M) (Both L' M') D
both_agree L L' M M' C D apart apart' first second u v y w p q d e h i same =
    let whole : d.front ++ (d.back ++ v) ≡ e.front ++ (e.back ++ w) =
    sym (append_assoc d.front d.back v) ∙ ap (λ l. l ++ v) (sym d.cut) ∙ same ∙ ap (λ l. l ++ w) e.cut ∙ append_assoc e.front e.back w in
    let one = first d.front (d.back ++ v) e.front (e.back ++ w) p.0 q.0 d.left e.left (apart d.back v p.1 d.right h) (apart' e.back w q.1 e.right i) whole in
    let two = second d.back v e.back w p.1 q.1 d.right e.right h i (append_cancel_left d.front _ _ (whole ∙ ap (λ l. l ++ (e.back ++ w)) (sym one.0))) in
    (d.cut ∙ (λ t. one.0 t ++ two.0 t) ∙ sym e.cut, λ t. (one.1 t, two.1 t))

pub built_agree : {A B : Type 0} (g : List Token → A → B) (L L' : List Token → A → Type 0) (C : Token → Bool) → Agree L L' C → Agree (Built g L) (Built g L') C
built_agree g L L' C of u v y w a b d e h i same =
    let k = of u v y w d.of e.of d.phrase e.phrase h i same in
    (k.0, d.is ∙ (λ t. g (k.0 t) (k.1 t)) ∙ sym e.is)

-- no token begins both
abbrev pub Clash : (Token → Bool) → (Token → Bool) → Type 0
Clash F G = (t : Token) → F t ≡ true → G t ≡ false

pub apart_heads : (F C : Token → Bool) → Clash F C → (z v : List Token) → heads F z ≡ true → heads C (z ++ v) ≡ false
apart_heads F C apart [] v h = absurd cc
apart_heads F C apart (t ∷ z) v h = apart t h

clashes : (F G : Token → Bool) → Clash F G → (u y v w : List Token) → heads F u ≡ true → heads G y ≡ true → u ++ v ≡ y ++ w → ⊥
clashes F G clash [] y v w h i same = cc
clashes F G clash (t ∷ u) [] v w h i same = cc
clashes F G clash (t ∷ u) (s ∷ y) v w h i same =
    let one : t ≡ s = cc in
    let out : G t ≡ false = clash t h in
    let is : G s ≡ true = i in
    cc

pub either_agree : {A : Type 0} (L L' M M' : List Token → A → Type 0) (C F G : Token → Bool) → Clash F G → Starts F L → Starts F L' → Starts G M → Starts G M' → Agree L L' C → Agree M M' C → Agree (Either L M) (Either L' M') C
either_agree L L' M M' C F G clash l l' m m' one two u v y w a b (left d) (left e) h i same = one u v y w a b d e h i same
either_agree L L' M M' C F G clash l l' m m' one two u v y w a b (right d) (right e) h i same = two u v y w a b d e h i same
either_agree L L' M M' C F G clash l l' m m' one two u v y w a b (left d) (right e) h i same = absurd (clashes F G clash u y v w (l u a d) (m' y b e) same)
either_agree L L' M M' C F G clash l l' m m' one two u v y w a b (right d) (left e) h i same = absurd (clashes F G clash y u w v (l' y b e) (m u a d) (sym same))

stands : (F : Token → Bool) (y v w : List Token) → heads F y ≡ true → v ≡ y ++ w → heads F v ≡ false → ⊥
stands F y v w h e i =
    let k : heads F v ≡ true = ap (heads F) e ∙ r.heads_append F y w h in
    cc

pub optional_agree : {A : Type 0} (L L' : List Token → A → Type 0) (C F : Token → Bool) → Starts F L → Starts F L' → Agree L L' C → Agree (Optional L) (Optional L') (among F C)
optional_agree L L' C F l l' of u v y w None None d e h i same = (d ∙ sym e, refl)
optional_agree L L' C F l l' of u v y w (Some a) (Some b) d e h i same =
    let k = of u v y w a b d e (r.among_right F C v h) (r.among_right F C w i) same in
    (k.0, ap Some k.1)
optional_agree L L' C F l l' of u v y w None (Some b) d e h i same = absurd (stands F y v w (l' y b e) (ap (λ l. l ++ v) (sym d) ∙ same) (r.among_left F C v h))
optional_agree L L' C F l l' of u v y w (Some a) None d e h i same = absurd (stands F u w v (l u a d) (ap (λ l. l ++ w) (sym e) ∙ sym same) (r.among_left F C w i))

module _ {A B : Type 0} (start start' : List Token → A → Type 0) (step step' : List Token → B → Type 0) (join : List Token → A → B → A) (C F : Token → Bool)
    (begins : Starts F step) (begins' : Starts F step') (apart : Clash F C) (first : Agree start start' C) (next : Agree step step' C) where
  ended : (front z v : List Token) (a c : A) → Steps step join front a z c → heads (among C F) v ≡ false → heads C (z ++ v) ≡ false
  ended front z v a c ends h = r.among_left C F v h
  ended front z v a c (steps back rest b d i g) h = apart_heads F C apart (back ++ rest) v (r.heads_append F back rest (begins back b i))

  ended' : (front z v : List Token) (a c : A) → Steps step' join front a z c → heads (among C F) v ≡ false → heads C (z ++ v) ≡ false
  ended' front z v a c ends h = r.among_left C F v h
  ended' front z v a c (steps back rest b d i g) h = apart_heads F C apart (back ++ rest) v (r.heads_append F back rest (begins' back b i))

  steps_agree : (front z v y w : List Token) (a c d : A) → Steps step join front a z c → Steps step' join front a y d → heads (among C F) v ≡ false → heads (among C F) w ≡ false → z ++ v ≡ y ++ w → (z ≡ y) × (c ≡ d)
  steps_agree front z v y w a c d ends ends h i same = (refl, refl)
  steps_agree front z v y w a c d ends (steps back rest b e j g) h i same =
      absurd (stands F (back ++ rest) v w (r.heads_append F back rest (begins' back b j)) same (r.among_right C F v h))
  steps_agree front z v y w a c d (steps back rest b e j g) ends h i same =
      absurd (stands F (back ++ rest) w v (r.heads_append F back rest (begins back b j)) (sym same) (r.among_right C F w i))
  steps_agree front z v y w a c d (steps back rest b e j g) (steps back' rest' b' f j' g') h i same =
      let whole : back ++ (rest ++ v) ≡ back' ++ (rest' ++ w) = sym (append_assoc back rest v) ∙ same ∙ append_assoc back' rest' w in
      let one = next back (rest ++ v) back' (rest' ++ w) b b' j j' (ended (front ++ back) rest v (join (front ++ back) a b) c g h) (ended' (front ++ back') rest' w (join (front ++ back') a b') d g' i) whole in
      let moved : Steps step' join (front ++ back) (join (front ++ back) a b) rest' d =
      subst (λ (p : List Token × B). Steps step' join (front ++ p.0) (join (front ++ p.0) a p.1) rest' d) (λ t. (sym one.0 t, sym one.1 t)) g' in
      let two = steps_agree (front ++ back) rest v rest' w (join (front ++ back) a b) c d g moved h i (append_cancel_left back _ _ (whole ∙ ap (λ l. l ++ (rest' ++ w)) (sym one.0))) in
      ((λ t. one.0 t ++ two.0 t), two.1)

  pub repeat_agree : Agree (Repeat start step join) (Repeat start' step' join) (among C F)
  repeat_agree u v y w a b d e h i same =
      let whole : d.front ++ (d.rest ++ v) ≡ e.front ++ (e.rest ++ w) = sym (append_assoc d.front d.rest v) ∙ ap (λ l. l ++ v) (sym d.cut) ∙ same ∙ ap (λ l. l ++ w) e.cut ∙ append_assoc e.front e.rest w in
      let one = first d.front (d.rest ++ v) e.front (e.rest ++ w) d.first e.first d.begins e.begins (ended d.front d.rest v d.first a d.goes_on h) (ended' e.front e.rest w e.first b e.goes_on i) whole in
      let moved : Steps step' join d.front d.first e.rest b =
      subst (λ (p : List Token × A). Steps step' join p.0 p.1 e.rest b) (λ t. (sym one.0 t, sym one.1 t)) e.goes_on in
      let two = steps_agree d.front d.rest v e.rest w d.first a b d.goes_on moved h i (append_cancel_left d.front _ _ (whole ∙ ap (λ l. l ++ (e.rest ++ w)) (sym one.0))) in
      (d.cut ∙ (λ t. one.0 t ++ two.0 t) ∙ sym e.cut, two.1)

-- the same where more tokens may go on
pub agree_within : {A : Type 0} (L M : List Token → A → Type 0) (C D : Token → Bool) → ((v : List Token) → heads D v ≡ false → heads C v ≡ false) → Agree L M C → Agree L M D
agree_within L M C D within of u v y w a b d e h i same = of u v y w a b d e (within v h) (within w i) same
