-- The ids of versions that pass a test, rising.
use Rattle.std.proofs.Common.{◌≡◌, ℕ, Bool, true, false, cond, List, [], ◌∷◌, ◌++◌, filter, map, reverse, refl, sym, ap, ◌∙◌}
use Rattle.std.proofs.lemmas.List.{append-nil, reverse-append}
use Rattle.std.proofs.lemmas.List.Elements.{filter-append}
use Rattle.sp_version.specs.declared.version.Version.{Version}
use Rattle.sp_group.specs.Machine as machine
use Rattle.sp_tree.specs.Grown.{Entry}
use Rattle.sp_core.specs.Holding.{version_of}

filter_reverse : (p : ℕ → Bool) (ns : List ℕ) → filter p (reverse ns) ≡ reverse (filter p ns)
filter_reverse p [] = refl
filter_reverse p (n ∷ ns) =
    ap (filter p) (reverse-append (n ∷ []) ns) ∙ filter-append p (reverse ns) (n ∷ []) ∙ ap (λ (ms : List ℕ). ms ++ filter p (n ∷ [])) (filter_reverse p ns)
    ∙ one (p n)
  where
    one : (b : Bool) → reverse (filter p ns) ++ cond b (n ∷ []) [] ≡ reverse (cond b (n ∷ filter p ns) (filter p ns))
    one true = sym (reverse-append (n ∷ []) (filter p ns))
    one false = append-nil (reverse (filter p ns))

filter_ids : (p : ℕ → Bool) (es : List (Entry Version)) → filter p (map (λ (e : Entry Version). e.version.id) es) ≡ map (λ (v : machine.Version). v.id) (filter (λ (v : machine.Version). p v.id) (map version_of es))
filter_ids p [] = refl
filter_ids p (e ∷ es) = one (p e.version.id) (filter_ids p es)
  where
    one : (b : Bool) → filter p (map (λ (e : Entry Version). e.version.id) es) ≡ map (λ (v : machine.Version). v.id) (filter (λ (v : machine.Version). p v.id) (map version_of es))
        → cond b (e.version.id ∷ filter p (map (λ (e : Entry Version). e.version.id) es)) (filter p (map (λ (e : Entry Version). e.version.id) es))
        ≡ map (λ (v : machine.Version). v.id) (cond b (version_of e ∷ filter (λ (v : machine.Version). p v.id) (map version_of es)) (filter (λ (v : machine.Version). p v.id) (map version_of es)))
    one true rest = ap (λ (ns : List ℕ). e.version.id ∷ ns) rest
    one false rest = rest

-- those of the walk over a tree are those of the machine's versions
pub passing_ids : (p : ℕ → Bool) (es : List (Entry Version))
    → filter p (reverse (map (λ (e : Entry Version). e.version.id) es)) ≡ reverse (map (λ (v : machine.Version). v.id) (filter (λ (v : machine.Version). p v.id) (map version_of es)))
passing_ids p es = filter_reverse p (map (λ (e : Entry Version). e.version.id) es) ∙ ap reverse (filter_ids p es)
