-- The clauses of a query as they are written.
use Rattle.std.proofs.Common.{◌≡◌, ◌≢◌, ℕ, Option, Some, None, List, [], ◌∷◌, ◌++◌, codes, refl, sym, ◌∙◌, ap, subst, append-nil, length}
use Rattle.std.specs.Fmt.{decimal}
use Rattle.sp_lex.specs.declared.token.Span.{Span}
use Rattle.sp_lex.specs.declared.token.Token.{Token}
use Rattle.sp_lex.specs.declared.token.Kernel.{Kernel}
use Rattle.sp_lex.specs.declared.token.Kernel.TheVariants as k
use Rattle.sp_lex.specs.declared.token.Word.{Word}
use Rattle.sp_lex.specs.declared.token.Word.TheVariants as w
use Rattle.sp_lex.specs.Spelling.{spelling}
use Rattle.sp_query.specs.declared.mark.Mark.{Mark}
use Rattle.sp_query.specs.declared.mark.Mark.TheVariants as m
use Rattle.sp_query.specs.declared.tree.Tree.{Tree}
use Rattle.sp_query.specs.declared.query.Ident.{Ident}
use Rattle.sp_query.specs.declared.query.Query.{Query}
use Rattle.sp_query.specs.declared.query.QueryColumn.{QueryColumn}
use Rattle.sp_query.specs.declared.query.QueryElement.{QueryElement}
use Rattle.sp_query.specs.declared.query.QueryElement.TheVariants as e
use Rattle.sp_query.specs.declared.query.QueryOpening.{QueryOpening}
use Rattle.sp_query.specs.declared.query.QueryOpening.TheVariants as o
use Rattle.sp_query.specs.declared.query.QueryConsume.{QueryConsume}
use Rattle.sp_query.specs.declared.query.QueryConsume.TheVariants as u
use Rattle.sp_query.specs.Phrase.{One, Both, Either, Built, Optional}
use Rattle.sp_query.specs.Grammar as g
use Rattle.sp_query.specs.Same.{Pairwise, SameTree, SameIdent, SameTime, SameColumn, SameElement, SameDefinition, SameOpening, SameConsume, SameLength, Same}
use Rattle.sp_query.specs.Queries.{IsQuery}
use Rattle.sp_syntax.specs.Printing.{Has, Prints, Equal, SameItems, Each}
use Rattle.sp_syntax.proofs.Speaking.{Unlike, Paired, prints_one, prints_both, prints_built, prints_after, prints_between, has_neither, prints_left, prints_right, prints_none, prints_some, prints_map}
use Rattle.sp_syntax.proofs.Spelled.{mark_spelled, word_spelled, plain_tokens, lexed}
use Rattle.sp_syntax.proofs.Operands.{plain_one, prints_name, prints_whole}
use Rattle.sp_syntax.proofs.Lists.{no_list, prints_list}

-- ---- words

kind_word : (x : Kernel) (word : Word) → g.plain_kind x ≡ Some word → g.plain_kind (k.Word word) ≡ Some word
kind_word (k.Word w.Int) word h = let d : w.Int ≡ word = cc in subst (λ z. g.plain_kind (k.Word z) ≡ Some z) d refl
kind_word (k.Word w.Text) word h = let d : w.Text ≡ word = cc in subst (λ z. g.plain_kind (k.Word z) ≡ Some z) d refl
kind_word _ word h = absurd cc

unit_word : (x : Kernel) (word : Word) → g.unit x ≡ Some word → g.unit (k.Word word) ≡ Some word
unit_word (k.Word w.Events) word h = let d : w.Events ≡ word = cc in subst (λ z. g.unit (k.Word z) ≡ Some z) d refl
unit_word (k.Word w.Time) word h = let d : w.Time ≡ word = cc in subst (λ z. g.unit (k.Word z) ≡ Some z) d refl
unit_word _ word h = absurd cc

policy_word : (x : Kernel) (word : Word) → g.policy x ≡ Some word → g.policy (k.Word word) ≡ Some word
policy_word (k.Word w.First) word h = let d : w.First ≡ word = cc in subst (λ z. g.policy (k.Word z) ≡ Some z) d refl
policy_word (k.Word w.Last) word h = let d : w.Last ≡ word = cc in subst (λ z. g.policy (k.Word z) ≡ Some z) d refl
policy_word (k.Word w.Each) word h = let d : w.Each ≡ word = cc in subst (λ z. g.policy (k.Word z) ≡ Some z) d refl
policy_word _ word h = absurd cc

prints_word : (f : Kernel → Option Word) → ((x : Kernel) (word : Word) → f x ≡ Some word → f (k.Word word) ≡ Some word) → (word : Word) → Prints (One (g.kernel f)) Equal word (spelling word ++ 32 ∷ [])
prints_word f only word has = let p = plain_one f word has in prints_one f Equal word (k.Word word) (spelling word) (only p.0 word p.2) (word_spelled word) refl has

-- ---- names and columns

pub prints_ident : (ident : Ident) → Prints g.Name SameIdent ident (ident.text ++ 32 ∷ [])
prints_ident ident =
    prints_built (λ ts x. record { text = x; span = g.span ts }) (One (g.kernel g.name)) Equal SameIdent ident (ident.text ++ 32 ∷ [])
    (λ u x is. subst (λ z. Prints (One (g.kernel g.name)) Equal x (z ++ 32 ∷ [])) (sym (ap (λ (i : Ident). i.text) is)) (prints_name x))
    (λ u ts x y is h. ap (λ (i : Ident). i.text) is ∙ h)

no_dec : (x : Kernel) → g.plain_kind x ≢ Some w.Dec
no_dec (k.Word w.Int) h = cc
no_dec (k.Word w.Text) h = cc
no_dec _ h = cc

abbrev PlainKind : List Token → Word × ℕ → Type 0
PlainKind = Built (λ tokens word. (word, 0)) (One (g.kernel g.plain_kind))

abbrev DecKind : List Token → Word × ℕ → Type 0
DecKind = Built (λ tokens digits. (w.Dec, digits)) (g.After m.Dec (One (g.kernel g.whole)))

pub prints_plain_kind : (kind : Word) (digits : ℕ) → kind ≢ w.Dec → Prints g.KindOf Equal (kind, digits) (spelling kind ++ 32 ∷ [])
prints_plain_kind kind digits n =
    prints_left PlainKind DecKind Equal (kind, digits) (spelling kind ++ 32 ∷ []) (λ h. n (ap (λ (p : Word × ℕ). p.0) h.phrase.is))
    (prints_built (λ ts word. (word, 0)) (One (g.kernel g.plain_kind)) Equal Equal (kind, digits) (spelling kind ++ 32 ∷ [])
    (λ u word is. subst (λ z. Prints (One (g.kernel g.plain_kind)) Equal word (spelling z ++ 32 ∷ [])) (sym (ap (λ (p : Word × ℕ). p.0) is)) (prints_word g.plain_kind kind_word word))
    (λ u ts x y is h. is ∙ ap (λ z. (z, 0)) h))

pub prints_dec_kind : (kind : Word) (digits : ℕ) → kind ≡ w.Dec → Prints g.KindOf Equal (kind, digits) ((spelling kind ++ 32 ∷ []) ++ (decimal digits ++ 32 ∷ []))
prints_dec_kind kind digits e =
    let x = (spelling w.Dec ++ 32 ∷ []) ++ (decimal digits ++ 32 ∷ []) in
    let f : Prints g.KindOf Equal (w.Dec, digits) x = prints_right PlainKind DecKind Equal (w.Dec, digits) x
    (λ h. no_dec h.phrase.phrase.token.kernel (h.phrase.phrase.is ∙ ap (λ z. Some z) (sym (ap (λ (p : Word × ℕ). p.0) h.phrase.is))))
    (prints_built (λ ts z. (w.Dec, z)) (g.After m.Dec (One (g.kernel g.whole))) Equal Equal (w.Dec, digits) x
    (λ u z is. subst (λ z. Prints (g.After m.Dec (One (g.kernel g.whole))) Equal z ((spelling w.Dec ++ 32 ∷ []) ++ (decimal digits ++ 32 ∷ []))) (ap (λ (p : Word × ℕ). p.1) is)
    (prints_after m.Dec (One (g.kernel g.whole)) Equal digits (k.Word w.Dec) (spelling w.Dec) (decimal digits ++ 32 ∷ []) refl (word_spelled w.Dec) (prints_whole digits)))
    (λ u ts a b is h. is ∙ ap (λ z. (w.Dec, z)) h)) in
    subst (λ z. Prints g.KindOf Equal (z, digits) ((spelling z ++ 32 ∷ []) ++ (decimal digits ++ 32 ∷ []))) (sym e) f

pub prints_column : (column : QueryColumn) (x y : List ℕ) → Prints g.Name SameIdent column.name x → Prints g.KindOf Equal (column.kind, column.digits) y → Prints g.Column SameColumn column (x ++ y)
prints_column column x y f h =
    prints_built (λ ts p. record { name = p.0; kind = p.1.0; digits = p.1.1; span = g.span ts }) (Both g.Name g.KindOf) (Paired SameIdent Equal) SameColumn column (x ++ y)
    (λ v p is. prints_both g.Name g.KindOf SameIdent Equal p x y (subst (λ z. Prints g.Name SameIdent z x) (ap (λ (c : QueryColumn). c.name) is) f) (subst (λ (z : Word × ℕ). Prints g.KindOf Equal z y) (λ i. ((is i).kind, (is i).digits)) h))
    (λ v ts p q is r. (ap (λ (c : QueryColumn). c.name.text) is ∙ r.0, ap (λ (c : QueryColumn). c.kind) is ∙ ap (λ (z : Word × ℕ). z.0) r.1, ap (λ (c : QueryColumn). c.digits) is ∙ ap (λ (z : Word × ℕ). z.1) r.1))

-- in round brackets
pub prints_round : {A : Type 0} (L : List Token → A → Type 0) (R : A → A → Type 0) (a : A) (x : List ℕ) → Prints L R a x → Prints (g.Between m.LeftRound L m.RightRound) R a ((codes "(" ++ 32 ∷ []) ++ (x ++ (codes ")" ++ 32 ∷ [])))
prints_round L R a x f = prints_between m.LeftRound L m.RightRound R a k.LeftRound k.RightRound (codes "(") (codes ")") x refl (mark_spelled k.LeftRound (codes "(") refl) refl (mark_spelled k.RightRound (codes ")") refl) f

-- a word, and then a phrase
pub prints_behind : {A : Type 0} (L : List Token → A → Type 0) (R : A → A → Type 0) (a : A) (x : List ℕ) (word : Word) (which : Mark) → g.mark which (k.Word word) ≡ Some tt → Prints L R a x → Prints (g.After which L) R a ((spelling word ++ 32 ∷ []) ++ x)
prints_behind L R a x word which e f = prints_after which L R a (k.Word word) (spelling word) x e (word_spelled word) f

-- ---- elements

-- what an element is that is no name alone
abbrev Marked : List Token → QueryElement → Type 0
Marked = Either g.Several g.Negated

-- an element of one name is neither
not_marked : (element : QueryElement) → ((names : List Ident) → element ≢ e.Set names) → ((ident : Ident) (span : Span) → element ≢ e.Never ident span) → Has Marked element → ⊥
not_marked element set never d = has_neither g.Several g.Negated element (λ one. set one.phrase.of one.phrase.is) (λ one. never one.phrase.of (g.span one.tokens) one.phrase.is) d

abbrev Sign : List Token → Option (Unit {0}) → Type 0
Sign = Optional (One (g.kernel (g.mark m.Plus)))

one_only : (ident : Ident) (v : List Token) (first : Ident) (sign : Option (Unit {0})) → e.One ident ≡ g.single v (first, sign) → (ident ≡ first) × (None ≡ sign)
one_only ident v first None is = let d : ident ≡ first = cc in (d, refl)
one_only ident v first (Some x) is = absurd cc

plus_only : (ident : Ident) (span : Span) (v : List Token) (first : Ident) (sign : Option (Unit {0})) → e.Plus ident span ≡ g.single v (first, sign) → (ident ≡ first) × (Some tt ≡ sign)
plus_only ident span v first None is = absurd cc
plus_only ident span v first (Some x) is = let d : ident ≡ first = cc in (d, refl)

single_same : (v ts : List Token) (first other : Ident) (sign more : Option (Unit {0})) → SameIdent first other → sign ≡ more → SameElement (g.single v (first, sign)) (g.single ts (other, more))
single_same v ts first other None None r h = r
single_same v ts first other (Some x) (Some y) r h = r
single_same v ts first other None (Some y) r h = absurd cc
single_same v ts first other (Some x) None r h = absurd cc

prints_sign : (element : QueryElement) (ident : Ident) (sign : Option (Unit {0})) (x y : List ℕ) → (Has Marked element → ⊥) → ((v : List Token) (p : Ident × Option (Unit {0})) → element ≡ g.single v p → (ident ≡ p.0) × (sign ≡ p.1))
    → Prints g.Name SameIdent ident x → Prints Sign Equal sign y → Prints g.Element SameElement element (x ++ y)
prints_sign element ident sign x y n only f h =
    prints_left g.Single Marked SameElement element (x ++ y) n
    (prints_built g.single (Both g.Name Sign) (Paired SameIdent Equal) SameElement element (x ++ y)
    (λ v p is. let same = only v p is in prints_both g.Name Sign SameIdent Equal p x y (subst (λ z. Prints g.Name SameIdent z x) same.0 f) (subst (λ z. Prints Sign Equal z y) same.1 h))
    (λ v ts p q is r. subst (λ z. SameElement z (g.single ts q)) (sym is) (single_same v ts p.0 q.0 p.1 q.1 r.0 r.1)))

pub prints_single : (ident : Ident) (x : List ℕ) → Prints g.Name SameIdent ident x → Prints g.Element SameElement (e.One ident) x
prints_single ident x f = subst (λ z. Prints g.Element SameElement (e.One ident) z) (append-nil x)
    (prints_sign (e.One ident) ident None x [] (not_marked (e.One ident) (λ names d. cc) (λ other span d. cc)) (λ v p is. one_only ident v p.0 p.1 is) f (prints_none (One (g.kernel (g.mark m.Plus))) Equal refl))

pub prints_plus : (ident : Ident) (span : Span) (x : List ℕ) → Prints g.Name SameIdent ident x → Prints g.Element SameElement (e.Plus ident span) (x ++ (codes "+" ++ 32 ∷ []))
prints_plus ident span x f =
    prints_sign (e.Plus ident span) ident (Some tt) x (codes "+" ++ 32 ∷ []) (not_marked (e.Plus ident span) (λ names d. cc) (λ other more d. cc)) (λ v p is. plus_only ident span v p.0 p.1 is) f
    (prints_some (One (g.kernel (g.mark m.Plus))) Unlike Equal tt (codes "+" ++ 32 ∷ []) (λ b r. refl) (prints_one (g.mark m.Plus) Unlike tt k.Plus (codes "+") refl (mark_spelled k.Plus (codes "+") refl) tt))

set_not_single : (names : List Ident) (v : List Token) (first : Ident) (sign : Option (Unit {0})) → e.Set names ≢ g.single v (first, sign)
set_not_single names v first None d = cc
set_not_single names v first (Some x) d = cc

never_not_single : (ident : Ident) (span : Span) (v : List Token) (first : Ident) (sign : Option (Unit {0})) → e.Never ident span ≢ g.single v (first, sign)
never_not_single ident span v first None d = cc
never_not_single ident span v first (Some x) d = cc

set_no_never : (names : List Ident) (ident : Ident) (span : Span) → e.Set names ≢ e.Never ident span
set_no_never names ident span d = cc

pub prints_set : (names : List Ident) (x : List ℕ) → Prints g.Names (Pairwise SameIdent) names x
    → Prints g.Element SameElement (e.Set names) ((codes "SET" ++ 32 ∷ []) ++ ((codes "(" ++ 32 ∷ []) ++ (x ++ (codes ")" ++ 32 ∷ []))))
prints_set names x f =
    let y = (codes "(" ++ 32 ∷ []) ++ (x ++ (codes ")" ++ 32 ∷ [])) in
    let z = (codes "SET" ++ 32 ∷ []) ++ y in
    prints_right g.Single Marked SameElement (e.Set names) z (λ d. set_not_single names d.tokens d.phrase.of.0 d.phrase.of.1 d.phrase.is)
    (prints_left g.Several g.Negated SameElement (e.Set names) z (λ d. set_no_never names d.phrase.of (g.span d.tokens) d.phrase.is)
    (prints_built (λ ts all. e.Set all) (g.After m.Set (g.Between m.LeftRound g.Names m.RightRound)) (Pairwise SameIdent) SameElement (e.Set names) z
    (λ v all is.
    let d : names ≡ all = cc in
    subst (λ l. Prints (g.After m.Set (g.Between m.LeftRound g.Names m.RightRound)) (Pairwise SameIdent) l z) d
    (prints_after m.Set (g.Between m.LeftRound g.Names m.RightRound) (Pairwise SameIdent) names (k.Word w.Set) (codes "SET") y refl (word_spelled w.Set) (prints_round g.Names (Pairwise SameIdent) names x f)))
    (λ v ts all more is r. subst (λ l. SameElement l (e.Set more)) (sym is) r)))

pub prints_never : (ident : Ident) (span : Span) (x : List ℕ) → Prints g.Name SameIdent ident x → Prints g.Element SameElement (e.Never ident span) ((codes "!" ++ 32 ∷ []) ++ x)
prints_never ident span x f =
    let z = (codes "!" ++ 32 ∷ []) ++ x in
    prints_right g.Single Marked SameElement (e.Never ident span) z (λ d. never_not_single ident span d.tokens d.phrase.of.0 d.phrase.of.1 d.phrase.is)
    (prints_right g.Several g.Negated SameElement (e.Never ident span) z (λ d. set_no_never d.phrase.of ident span (sym d.phrase.is))
    (prints_built (λ ts one. e.Never one (g.span ts)) (g.After m.Bang g.Name) SameIdent SameElement (e.Never ident span) z
    (λ v one is.
    let d : ident ≡ one = cc in
    subst (λ i. Prints (g.After m.Bang g.Name) SameIdent i z) d
    (prints_after m.Bang g.Name SameIdent ident k.Bang (codes "!") x refl (mark_spelled k.Bang (codes "!") refl) f))
    (λ v ts one more is r. subst (λ l. SameElement l (e.Never more (g.span ts))) (sym is) r)))

-- ---- lengths and openings

pub prints_amount : (number : ℕ) (unit : Word) → Prints g.Amount Equal (number, unit) ((decimal number ++ 32 ∷ []) ++ (spelling unit ++ 32 ∷ []))
prints_amount number unit = prints_map g.Amount (Paired Equal Equal) Equal (number, unit) ((decimal number ++ 32 ∷ []) ++ (spelling unit ++ 32 ∷ [])) (λ b h i. (h.0 i, h.1 i))
    (prints_both (One (g.kernel g.whole)) (One (g.kernel g.unit)) Equal Equal (number, unit) (decimal number ++ 32 ∷ []) (spelling unit ++ 32 ∷ []) (prints_whole number) (prints_word g.unit unit_word unit))

pub prints_within : (length : ℕ × Word × Span) (x : List ℕ) → Prints g.Amount Equal (length.0, length.1) x → Prints g.Within SameLength length ((codes "WITHIN" ++ 32 ∷ []) ++ x)
prints_within length x f =
    let Inner = Built (λ tokens p. (p.0, p.1, g.span tokens)) g.Amount in
    prints_after m.Within Inner SameLength length (k.Word w.Within) (codes "WITHIN") x refl (word_spelled w.Within)
    (prints_built (λ tokens p. (p.0, p.1, g.span tokens)) g.Amount Equal SameLength length x
    (λ v p is. subst (λ (z : ℕ × Word). Prints g.Amount Equal z x) (λ i. ((is i).0, (is i).1)) f)
    (λ v ts p q is r. (ap (λ (z : ℕ × Word × Span). z.0) is ∙ ap (λ (z : ℕ × Word). z.0) r, ap (λ (z : ℕ × Word × Span). z.1) is ∙ ap (λ (z : ℕ × Word). z.1) r)))

abbrev WhenOf : ℕ → List Token → QueryOpening → Type 0
WhenOf room = Built (λ tokens p. o.When p) (g.After m.When (g.Pred room))

pub prints_every : (room number : ℕ) (unit : Word) (span : Span) (x : List ℕ) → Prints g.Amount Equal (number, unit) x → Prints (g.Opening room) SameOpening (o.Every number unit span) ((codes "FROM" ++ 32 ∷ []) ++ ((codes "EVERY" ++ 32 ∷ []) ++ x))
prints_every room number unit span x f =
    let opening = o.Every number unit span in
    let y = (codes "EVERY" ++ 32 ∷ []) ++ x in
    prints_after m.From (Either g.Every (WhenOf room)) SameOpening opening (k.Word w.From) (codes "FROM") y refl (word_spelled w.From)
    (prints_left g.Every (WhenOf room) SameOpening opening y (λ d. let c : opening ≡ o.When d.phrase.of = d.phrase.is in cc)
    (prints_built (λ tokens p. o.Every p.0 p.1 (g.span tokens)) (g.After m.Every g.Amount) Equal SameOpening opening y
    (λ v p is.
    let a : number ≡ p.0 = cc in
    let b : unit ≡ p.1 = cc in
    prints_after m.Every g.Amount Equal p (k.Word w.Every) (codes "EVERY") x refl (word_spelled w.Every) (subst (λ (z : ℕ × Word). Prints g.Amount Equal z x) (λ i. (a i, b i)) f))
    (λ v ts p q is r. subst (λ z. SameOpening z (o.Every q.0 q.1 (g.span ts))) (sym is) (ap (λ (z : ℕ × Word). z.0) r, ap (λ (z : ℕ × Word). z.1) r))))

pub prints_when : (room : ℕ) (t : Tree) (x : List ℕ) → Prints (g.Pred room) SameTree t x → Prints (g.Opening room) SameOpening (o.When t) ((codes "FROM" ++ 32 ∷ []) ++ ((codes "WHEN" ++ 32 ∷ []) ++ x))
prints_when room t x f =
    let y = (codes "WHEN" ++ 32 ∷ []) ++ x in
    prints_after m.From (Either g.Every (WhenOf room)) SameOpening (o.When t) (k.Word w.From) (codes "FROM") y refl (word_spelled w.From)
    (prints_right g.Every (WhenOf room) SameOpening (o.When t) y (λ d. let c : o.When t ≡ o.Every d.phrase.of.0 d.phrase.of.1 (g.span d.tokens) = d.phrase.is in cc)
    (prints_built (λ tokens p. o.When p) (g.After m.When (g.Pred room)) SameTree SameOpening (o.When t) y
    (λ v p is. let a : t ≡ p = cc in prints_after m.When (g.Pred room) SameTree p (k.Word w.When) (codes "WHEN") x refl (word_spelled w.When) (subst (λ z. Prints (g.Pred room) SameTree z x) a f))
    (λ v ts p q is r. subst (λ z. SameOpening z (o.When q)) (sym is) r)))

pub prints_policy : (select : Word) → Prints g.Policy Equal select ((codes "SELECT" ++ 32 ∷ []) ++ (spelling select ++ 32 ∷ []))
prints_policy select = prints_after m.Select (One (g.kernel g.policy)) Equal select (k.Word w.Select) (codes "SELECT") (spelling select ++ 32 ∷ []) refl (word_spelled w.Select) (prints_word g.policy policy_word select)

-- ---- consumption

abbrev NamesOf : List Token → QueryConsume → Type 0
NamesOf = Built (λ tokens names. u.Names names) (g.Between m.LeftRound (g.ListOf g.Name) m.RightRound)

no_names : (x : Kernel) (names : List Ident) → g.all_or_none x ≢ Some (u.Names names)
no_names (k.Word w.All) names h = let d : u.All ≡ u.Names names = cc in cc
no_names (k.Word w.None) names h = let d : u.None ≡ u.Names names = cc in cc
no_names _ names h = cc

prints_plain_consume : (which : QueryConsume) (word : Word) → ((names : List Ident) → which ≢ u.Names names) → SameConsume which which → g.all_or_none (k.Word word) ≡ Some which → Prints g.Consume SameConsume which ((codes "CONSUME" ++ 32 ∷ []) ++ (spelling word ++ 32 ∷ []))
prints_plain_consume which word n same e =
    let y = spelling word ++ 32 ∷ [] in
    prints_after m.Consume (Either (One (g.kernel g.all_or_none)) NamesOf) SameConsume which (k.Word w.Consume) (codes "CONSUME") y refl (word_spelled w.Consume)
    (prints_left (One (g.kernel g.all_or_none)) NamesOf SameConsume which y (λ d. n d.phrase.of d.phrase.is)
    (prints_one g.all_or_none SameConsume which (k.Word word) (spelling word) e (word_spelled word) same))

pub prints_all : Prints g.Consume SameConsume u.All ((codes "CONSUME" ++ 32 ∷ []) ++ (codes "ALL" ++ 32 ∷ []))
prints_all = prints_plain_consume u.All w.All (λ names d. cc) tt refl

pub prints_nothing : Prints g.Consume SameConsume u.None ((codes "CONSUME" ++ 32 ∷ []) ++ (codes "NONE" ++ 32 ∷ []))
prints_nothing = prints_plain_consume u.None w.None (λ names d. cc) tt refl

pub prints_names : (names : List Ident) (x : List ℕ) → Prints (g.ListOf g.Name) (Pairwise SameIdent) names x
    → Prints g.Consume SameConsume (u.Names names) ((codes "CONSUME" ++ 32 ∷ []) ++ ((codes "(" ++ 32 ∷ []) ++ (x ++ (codes ")" ++ 32 ∷ []))))
prints_names names x f =
    let y = (codes "(" ++ 32 ∷ []) ++ (x ++ (codes ")" ++ 32 ∷ [])) in
    prints_after m.Consume (Either (One (g.kernel g.all_or_none)) NamesOf) SameConsume (u.Names names) (k.Word w.Consume) (codes "CONSUME") y refl (word_spelled w.Consume)
    (prints_right (One (g.kernel g.all_or_none)) NamesOf SameConsume (u.Names names) y (λ d. no_names d.phrase.token.kernel names d.phrase.is)
    (prints_built (λ ts all. u.Names all) (g.Between m.LeftRound (g.ListOf g.Name) m.RightRound) (Pairwise SameIdent) SameConsume (u.Names names) y
    (λ v all is.
    let d : names ≡ all = cc in
    subst (λ l. Prints (g.Between m.LeftRound (g.ListOf g.Name) m.RightRound) (Pairwise SameIdent) l y) d (prints_round (g.ListOf g.Name) (Pairwise SameIdent) names x f))
    (λ v ts all more is r. subst (λ l. SameConsume l (u.Names more)) (sym is) r)))

pub nothing_in : {A : Type 0} (xs : List A) → length xs ≡ 0 → xs ≡ []
nothing_in [] e = refl
nothing_in (x ∷ xs) e = cc

-- ---- definitions

abbrev Rest : ℕ → List Token → List (Ident × Tree) → Type 0
Rest room = Each (g.After m.Comma (g.Definition room))

pub prints_definitions : (room : ℕ) (first : Ident × Tree) (rest : List (Ident × Tree)) (x y : List ℕ) → Prints (g.Definition room) SameDefinition first x → Prints (Rest room) (Pairwise SameDefinition) rest y
    → (all : Option (List (Ident × Tree))) → g.items all ≡ first ∷ rest → Prints (Optional (g.Definitions room)) SameItems all ((codes "DEFINE" ++ 32 ∷ []) ++ (x ++ y))
prints_definitions room first rest x y f h None e = absurd cc
prints_definitions room first rest x y f h (Some all) e =
    prints_some (g.Definitions room) (Pairwise SameDefinition) SameItems all ((codes "DEFINE" ++ 32 ∷ []) ++ (x ++ y)) (λ b r. r)
    (subst (λ z. Prints (g.Definitions room) (Pairwise SameDefinition) z ((codes "DEFINE" ++ 32 ∷ []) ++ (x ++ y))) (sym e)
    (prints_behind (g.ListOf (g.Definition room)) (Pairwise SameDefinition) (first ∷ rest) (x ++ y) w.Define m.Define refl (prints_list (g.Definition room) SameDefinition first rest x y f h)))

pub prints_no_definitions : (room : ℕ) (all : Option (List (Ident × Tree))) → g.items all ≡ [] → Prints (Optional (g.Definitions room)) SameItems all []
prints_no_definitions room None e has = prints_none (g.Definitions room) SameItems tt has
prints_no_definitions room (Some all) e has = absurd (no_list (g.Definition room) SameDefinition has.phrase.phrase.back (subst (λ z. g.ListOf (g.Definition room) has.phrase.phrase.back z) (sym has.phrase.is ∙ e) has.phrase.phrase.right))

-- ---- whole queries

abbrev pub Parts : ℕ → List Token → g.Clauses → Type 0
Parts room = Both g.Columns (Both (Optional g.Timed) (Both g.Elements (Both (Optional (g.Definitions room)) (Both g.Within (Both (g.Opening room) (Both g.Policy g.Consume))))))

abbrev pub SameParts : g.Clauses → g.Clauses → Type 0
SameParts = Paired (Pairwise SameColumn) (Paired SameTime (Paired (Pairwise SameElement) (Paired SameItems (Paired SameLength (Paired SameOpening (Paired Equal SameConsume))))))

-- the parts of a query, with definitions that are left out or not
abbrev pub parts_with : Query → Option (List (Ident × Tree)) → g.Clauses
parts_with query all = (query.columns, (query.time, (query.elements, (all, (query.length, (query.opening, (query.select, query.consume)))))))

pub prints_parts : (room : ℕ) (query : Query) (x : List ℕ) → ((all : Option (List (Ident × Tree))) → g.items all ≡ query.defines → Prints (Parts room) SameParts (parts_with query all) x) → Prints (g.Derives room) Same query x
prints_parts room query x f =
    prints_built g.query (Parts room) SameParts Same query x
    (λ v p is. subst (λ z. Prints (Parts room) SameParts z x) (λ i. ((is i).columns, ((is i).time, ((is i).elements, (p.1.1.1.0, ((is i).length, ((is i).opening, ((is i).select, (is i).consume))))))))
    (f p.1.1.1.0 (sym (ap (λ (q : Query). q.defines) is))))
    (λ v ts p q is r. subst (λ z. Same z (g.query ts q)) (sym is) (record {
      columns = r.0;
      time = r.1.0;
      elements = r.1.1.0;
      defines = r.1.1.1.0;
      length = r.1.1.1.1.0;
      opening = r.1.1.1.1.1.0;
      select = r.1.1.1.1.1.1.0;
      consume = r.1.1.1.1.1.1.1;
    }))

-- The text of a query that came from a text has the same query again.
pub query_again : (text x : List ℕ) (query : Query) → IsQuery text query → ((room : ℕ) → Prints (g.Derives room) Same query x) → (other : Query) × IsQuery x other × Same query other
query_again text x query is f =
    let spoken = f 64 (record { tokens = is.tokens; plain = plain_tokens is.tokens 0 text is.of_text; phrase = is.derives }) in
    let l = lexed spoken.of x spoken.written in
    let again = spoken.reads l.tokens l.is in
    (again.other, record { tokens = l.tokens; of_text = l.are; derives = again.phrase }, again.same)
