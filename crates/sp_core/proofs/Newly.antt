-- What is new to a window, and what a step leaves of it.
use Rattle.std.proofs.Common.{◌≡◌, ℕ, ◌+◌, ◌<◌, ◌≤◌, Bool, true, false, ◌&&◌, ◌||◌, List, [], ◌∷◌, ◌++◌, Option, Some, None, length, take, get_or, ⊎_elim, refl, sym, ap, ◌∙◌, subst, arith}
use Rattle.std.specs.Prelude.{nat_le, nat_lt}
use Rattle.std.specs.List.{list_any}
use Rattle.std.proofs.lemmas.Bool.Decides.{nat_tests}
use Rattle.std.proofs.lemmas.List.{take_all}
use Rattle.std.proofs.lemmas.List.Folds.{list_any-append, list_any_more}
use Rattle.sp_plan.specs.declared.plan.Plan.{Plan}
use Rattle.sp_group.specs.Effects.{home}
use Rattle.sp_group.specs.Machine.{Machine, Ticket, Version, is_hit, version_at}
use Rattle.sp_rules.specs.ComingHome.{IsComingHome}
use Rattle.sp_rules.specs.Lawful.{Lawful}
use Rattle.sp_rules.specs.Returning.{read_to}
use Rattle.sp_rules.proofs.Lists.{and_both, le_is, lt_is}
use Rattle.sp_spread.proofs.Hits.{NoneHitAnew}
use Rattle.sp_spread.proofs.HomeHits.{home_hit}
use Rattle.sp_core.specs.declared.news.News.{News}
use Rattle.sp_core.specs.Holding.{Holding, machine_of}
use Rattle.sp_core.specs.News.{AreNew, covers, is_from, is_new}
use Rattle.sp_core.specs.Withheld.{lesser}

-- whether a piece's news are news to versions of a window
abbrev pub tells : ℕ → ℕ → News → Bool
tells window i n = nat_lt n.window window && nat_le n.first i

-- news of the first n of these
abbrev pub is_new_of : List News → ℕ → ℕ → ℕ → Bool
is_new_of news n window i = list_any (tells window i) (take n news)

pub new_of_all : (news : List News) (n window i : ℕ) → length news ≤ n → is_new_of news n window i ≡ is_new news window i
new_of_all news n window i all = ap (list_any (tells window i)) (take_all n news all)

lesser_from : (o : Option ℕ) (first i : ℕ) → is_from (lesser o (Some first)) i ≡ (is_from o i || nat_le first i)
lesser_from None first i = refl
lesser_from (Some n) first i = grind (arith, nat_tests)

pub new_of_none : (news : List News) (window i : ℕ) → is_new_of news 0 window i ≡ false
new_of_none [] window i = refl
new_of_none (n ∷ news) window i = refl

one_more : (news : List News) (n window i : ℕ) (d e : News) (o : Option ℕ) → n < length news → d ≡ get_or news n e → is_new_of news n window i ≡ is_from o i
    → is_new_of news (n + 1) window i ≡ (is_from o i || tells window i d)
one_more news n window i d e o within is so_far =
    list_any_more (tells window i) news n e within
    ∙ ap (λ (b : Bool). b || tells window i (get_or news n e)) so_far
    ∙ ap (λ (x : News). is_from o i || tells window i x) (sym is)

-- one more, of an earlier window
pub new_earlier : (news : List News) (n window i : ℕ) (d e : News) (o : Option ℕ) → n < length news → d ≡ get_or news n e → is_new_of news n window i ≡ is_from o i
    → nat_lt d.window window ≡ true → is_new_of news (n + 1) window i ≡ is_from (lesser o (Some d.first)) i
new_earlier news n window i d e o within is so_far earlier =
    one_more news n window i d e o within is so_far
    ∙ ap (λ (b : Bool). is_from o i || (b && nat_le d.first i)) earlier
    ∙ sym (lesser_from o d.first i)

-- one more, of no earlier window
pub new_later : (news : List News) (n window i : ℕ) (d e : News) (o : Option ℕ) → n < length news → d ≡ get_or news n e → is_new_of news n window i ≡ is_from o i
    → nat_lt d.window window ≡ false → is_new_of news (n + 1) window i ≡ is_from o i
new_later news n window i d e o within is so_far later =
    one_more news n window i d e o within is so_far
    ∙ ap (λ (b : Bool). is_from o i || (b && nat_le d.first i)) later
    ∙ or_none (is_from o i)
  where
    or_none : (b : Bool) → (b || false) ≡ b
    or_none true = refl
    or_none false = refl

pub covered : (news : List News) (window first later i : ℕ) → list_any (covers window first) news ≡ true
    → is_new news later i ≡ (is_new news later i || (nat_lt window later && nat_le first i))
covered [] window first later i is = absurd (cc)
covered (n ∷ news) window first later i is = one (covers window first n) refl is (covered news window first later i)
  where
    now : Bool
    now = nat_lt window later && nat_le first i

    here : covers window first n ≡ true → (tells later i n || is_new news later i) ≡ ((tells later i n || is_new news later i) || now)
    here first = grind (arith, nat_tests)

    there : (a b : Bool) → b ≡ (b || now) → (a || b) ≡ ((a || b) || now)
    there true b rest = refl
    there false b rest = rest

    one : (b : Bool) → covers window first n ≡ b → (b || list_any (covers window first) news) ≡ true → (list_any (covers window first) news ≡ true → is_new news later i ≡ (is_new news later i || now))
        → (tells later i n || is_new news later i) ≡ ((tells later i n || is_new news later i) || now)
    one true is any rest = here is
    one false is any rest = there (tells later i n) (is_new news later i) (rest any)

-- one more behind the others
pub new_pushed : (news : List News) (n : News) (later i : ℕ) → is_new (news ++ n ∷ []) later i ≡ (is_new news later i || (nat_lt n.window later && nat_le n.first i))
new_pushed news n later i = list_any-append (tells later i) news (n ∷ []) ∙ ap (λ (b : Bool). is_new news later i || b) (or_none (tells later i n))
  where
    or_none : (b : Bool) → (b || false) ≡ b
    or_none true = refl
    or_none false = refl

-- where a step lets nothing be read anew, what is new stays what it was
told_on : (q : Plan) (m n : Machine) (news : List News) → AreNew q m news → NoneHitAnew q m n → AreNew q n news
told_on q m n news are none id w at i hit =
    let x = none id w at i hit in
    subst (λ (window : ℕ). is_new news window i ≡ true) x.of (are x.id x.version x.live i x.hit)

pub news_on : (h : Holding) (m n : Machine) → AreNew h.plan (machine_of h) h.news → m ≡ n → NoneHitAnew h.plan (machine_of h) n → AreNew h.plan m h.news
news_on h m n are does none = subst (λ (x : Machine). AreNew h.plan x h.news) (sym does) (told_on h.plan (machine_of h) n h.news are none)

-- and where a piece came home, what was new before, and its own news
pub news_home : (q : Plan) → Lawful q → (m : Machine) (n : ℕ) (t : Ticket) (v : Version) (k : ℕ) (closed : Bool) → IsComingHome q m n t v k closed → (news then : List News)
    → ((later i : ℕ) → is_new then later i ≡ (is_new news later i || (nat_lt v.window later && nat_le t.first i)))
    → AreNew q m news → AreNew q (home q m n (read_to t k closed) (Some v)) then
news_home q law m n t v k closed comes news then heard are id w at i hit =
    heard w.window i ∙ ⊎_elim
    (λ (y : (u : Version) × (version_at m.versions id ≡ Some u) × (u.window ≡ w.window) × (is_hit q m u i ≡ true)).
    or_first (is_new news w.window i) own (subst (λ (window : ℕ). is_new news window i ≡ true) y.2 (are id y.0 y.1 i y.3)))
    (λ (y : (v.window < w.window) × (t.first ≤ i)). or_second (is_new news w.window i) own (and_both (nat_lt v.window w.window) (nat_le t.first i) (lt_is v.window w.window y.0) (le_is t.first i y.1)))
    (home_hit q law m n t v k closed comes id w at i hit)
  where
    own : Bool
    own = nat_lt v.window w.window && nat_le t.first i

    or_first : (a b : Bool) → a ≡ true → (a || b) ≡ true
    or_first true b is = refl
    or_first false b is = absurd (cc)

    or_second : (a b : Bool) → b ≡ true → (a || b) ≡ true
    or_second true b is = refl
    or_second false b is = is
