-- The lines of tickets, into which it is written how far they are read.
use Rattle.std.proofs.Common.{◌≡◌, ℕ, ◌+◌, ◌-◌, ◌<◌, ◌≤◌, zero, suc, List, [], ◌∷◌, length, map, reverse, get_or, set, refl, sym, ap, ◌∙◌, arith}
use Rattle.std.proofs.lemmas.List.{get_or-map, get_or-reverse, length-map, length-reverse, map-set}
use Rattle.sp_piece.specs.Pieced.{Pieced}
use Rattle.sp_group.specs.declared.state.State as Printed
use Rattle.sp_group.specs.declared.state.TicketLine.{TicketLine}
use Rattle.sp_group.specs.Machine.{Ticket}
use Rattle.sp_group.specs.Seen.{StateSeen, TicketSeen, seen, seen_ticket, state_seen, ticket_seen}
use Rattle.sp_core.specs.OnBench.{on_bench, ticket_in, unread}
use Rattle.sp_core.specs.Running.{Running}
use Rattle.sp_core.proofs.Printed.{map_reversed}
use Rattle.sp_core.proofs.ReadApart.{same_seen}

-- the first so many tickets as they are, the others unread
abbrev pub partly : ℕ → List Ticket → List Ticket
partly zero ts = map unread ts
partly (suc n) [] = []
partly (suc n) (t ∷ ts) = t ∷ partly n ts

partly_all : (ts : List Ticket) (n : ℕ) → length ts ≤ n → partly n ts ≡ ts
partly_all [] zero most = refl
partly_all [] (suc n) most = refl
partly_all (t ∷ ts) zero most = absurd (omega arith)
partly_all (t ∷ ts) (suc n) most = ap (λ us. t ∷ us) (partly_all ts n (omega arith))

partly_next : (ts : List Ticket) (i : ℕ) (d : Ticket) → i < length ts → set (partly i ts) i (get_or ts i d) ≡ partly (suc i) ts
partly_next [] i d few = absurd (omega arith)
partly_next (t ∷ ts) zero d few = refl
partly_next (t ∷ ts) (suc i) d few = ap (λ us. t ∷ us) (partly_next ts i d (omega arith))

partly_at : (ts : List Ticket) (i : ℕ) (d e : Ticket) → i < length ts → get_or (partly i ts) i e ≡ unread (get_or ts i d)
partly_at [] i d e few = absurd (omega arith)
partly_at (t ∷ ts) zero d e few = refl
partly_at (t ∷ ts) (suc i) d e few = partly_at ts i d e (omega arith)

length_partly : (ts : List Ticket) (n : ℕ) → length (partly n ts) ≡ length ts
length_partly ts zero = length-map ts unread
length_partly [] (suc n) = refl
length_partly (t ∷ ts) (suc n) = ap suc (length_partly ts n)

-- the tickets of pieces, the oldest first
abbrev pub oldest_first : List Pieced → List Ticket
oldest_first ps = reverse (map ticket_in ps)

-- so far the lines are written, and at first none is
abbrev pub AreWritten : ℕ → List TicketLine → List Pieced → Type 0
AreWritten n lines ps = map seen_ticket lines ≡ map ticket_seen (partly n (oldest_first ps))

pub none_written : (lines : List TicketLine) (ps : List Pieced) → map seen_ticket lines ≡ reverse (map ticket_seen (map unread (map ticket_in ps))) → AreWritten 0 lines ps
none_written lines ps is =
    is
    ∙ sym (map_reversed ticket_seen (map unread (map ticket_in ps)))
    ∙ ap (map ticket_seen) (sym (map_reversed unread (map ticket_in ps)))

-- there are as many lines as pieces
as_many : (ps : List Pieced) (n : ℕ) → length (partly n (oldest_first ps)) ≡ length ps
as_many ps n = length_partly (oldest_first ps) n ∙ length-reverse (map ticket_in ps) ∙ length-map ps ticket_in

pub same_many : (n : ℕ) (lines : List TicketLine) (ps : List Pieced) → AreWritten n lines ps → length lines ≡ length ps
same_many n lines ps are =
    sym (length-map lines seen_ticket) ∙ ap length are ∙ length-map (partly n (oldest_first ps)) ticket_seen ∙ as_many ps n

pub one_written : (lines : List TicketLine) (ps : List Pieced) (i : ℕ) (line : TicketLine) (p : Pieced) → AreWritten i lines ps → i < length ps
    → line ≡ get_or lines i line → p ≡ get_or ps (length ps - 1 - i) p → AreWritten (i + 1) (set lines i (record line { read = p.read })) ps
one_written lines ps i line p are few at of =
    let all = same_many i lines ps are in
    let ts = oldest_first ps in
    let within : i < length ts = omega (arith, length-reverse (map ticket_in ps), length-map ps ticket_in) in
    let it : get_or ts i (ticket_in p) ≡ ticket_in p =
    get_or-reverse (map ticket_in ps) i (ticket_in p) (omega (arith, length-map ps ticket_in))
    ∙ ap (λ n. get_or (map ticket_in ps) (n - 1 - i) (ticket_in p)) (length-map ps ticket_in)
    ∙ get_or-map ticket_in ps (length ps - 1 - i) p (ticket_in p) (omega arith)
    ∙ ap ticket_in (sym of) in
    let was : seen_ticket line ≡ ticket_seen (unread (ticket_in p)) =
    ap seen_ticket at
    ∙ sym (get_or-map seen_ticket lines i line (seen_ticket line) (omega arith))
    ∙ ap (λ ls. get_or ls i (seen_ticket line)) are
    ∙ get_or-map ticket_seen (partly i ts) i (ticket_in p) (seen_ticket line) (omega (arith, as_many ps i))
    ∙ ap ticket_seen (partly_at ts i (ticket_in p) (ticket_in p) within ∙ ap unread it) in
    let next : suc i ≡ i + 1 = omega arith in
    map-set seen_ticket lines i (record line { read = p.read })
    ∙ ap (λ ls. set ls i (record (seen_ticket line) { read = p.read })) are
    ∙ ap (λ (l : TicketSeen). set (map ticket_seen (partly i ts)) i (record l { read = p.read })) was
    ∙ sym (map-set ticket_seen (partly i ts) i (ticket_in p))
    ∙ ap (λ t. map ticket_seen (set (partly i ts) i t)) (sym it)
    ∙ ap (map ticket_seen) (partly_next ts i (ticket_in p) within ∙ ap (λ n. partly n ts) next)

pub all_written : (lines : List TicketLine) (ps : List Pieced) (n : ℕ) → length lines ≤ n → AreWritten n lines ps → map seen_ticket lines ≡ reverse (map ticket_seen (map ticket_in ps))
all_written lines ps n most are =
    let many = same_many n lines ps are in
    are
    ∙ ap (map ticket_seen) (partly_all (oldest_first ps) n (omega (arith, length-reverse (map ticket_in ps), length-map ps ticket_in)))
    ∙ map_reversed ticket_seen (map ticket_in ps)

-- the state of a bench as it is printed, by the core's and the lines that are written
pub state_read : (c : Running) (ps : List Pieced) (s : Printed.State) (lines : List TicketLine) → map unread (map ticket_in ps) ≡ c.machine.tickets
    → seen s ≡ state_seen c.plan c.machine → map seen_ticket lines ≡ reverse (map ticket_seen (map ticket_in ps))
    → seen (record s { tickets = lines }) ≡ state_seen c.plan (on_bench c ps).machine
state_read c ps s lines tickets is are =
    ap (λ (t : StateSeen). record t { tickets = map seen_ticket lines }) is
    ∙ ap (λ ts. record (state_seen c.plan c.machine) { tickets = ts }) are
    ∙ ap (λ vs. record (state_seen c.plan (on_bench c ps).machine) { versions = reverse vs }) (sym (same_seen c.plan c.machine (map ticket_in ps) tickets c.machine.versions))

-- the lines of the core's state are of the unread tickets
pub core_lines : (c : Running) (ps : List Pieced) (s : Printed.State) → map unread (map ticket_in ps) ≡ c.machine.tickets → seen s ≡ state_seen c.plan c.machine
    → map seen_ticket s.tickets ≡ reverse (map ticket_seen (map unread (map ticket_in ps)))
core_lines c ps s tickets is = ap (λ (t : StateSeen). t.tickets) is ∙ ap (λ ts. reverse (map ticket_seen ts)) (sym tickets)
