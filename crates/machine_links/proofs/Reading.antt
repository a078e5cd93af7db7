-- What is read of one link: its messages and marks by its lane.
use Rattle.std.proofs.Common.{◌≡◌, ℕ, true, false, [], length, get_or, ⊎_elim, Option, Some, None, is_some, refl, ap, sym, ◌∙◌}
use Rattle.std.proofs.lemmas.Bool.{cases_Bool, false≢true}
use Rattle.std.proofs.lemmas.List.{length-map}
use Rattle.base_lemmas.proofs.Lemmas.{those-same}
use Rattle.rules_maps.specs.Words.{those}
use Rattle.rules_maps.specs.Nodes.{Node, Msg}
use Rattle.tcc_msg.specs.Plain.{msg_of}
use Rattle.rules_tcc.specs.Links.{in_flight}
use Rattle.machine_links.specs.declared.lane.Held.{Held}
use Rattle.machine_links.specs.Lane.{Lane, message, is_marked, is_waiting, numbers_of}
use Rattle.machine_links.specs.Places.{is_link}
use Rattle.machine_links.specs.Flights.{Flights, lane_at, lane, net_of, is_ready}
use Rattle.machine_links.proofs.Lanes.{in-flight}
use Rattle.machine_links.proofs.Placing.{place-none}

pub net-length : (f : Flights) (s d : Node) → length (net_of f s d) ≡ length (lane f s d)
unfolding net_of
net-length f s d = length-map (lane f s d) message

pub net-none : (f : Flights) (s d : Node) → lane f s d ≡ [] → length (net_of f s d) ≡ 0
net-none f s d e = net-length f s d ∙ ap length e

pub flown-some : (f : Flights) (s d : Node) (k : ℕ) (l : Lane) (h : Held) → l ≡ lane f s d → Some h ≡ get_or l k None
    → Some (msg_of h.msg) ≡ in_flight (net_of f) s d k
unfolding message
flown-some f s d k l h e g = ap message (g ∙ ap (λ m. get_or m k None) e) ∙ sym (in-flight f s d k)

pub flown-none : (f : Flights) (s d : Node) (k : ℕ) (l : Lane) → l ≡ lane f s d → None ≡ get_or l k None → None ≡ in_flight (net_of f) s d k
unfolding message
flown-none f s d k l e g = ap message (g ∙ ap (λ m. get_or m k None) e) ∙ sym (in-flight f s d k)

pub flown-no_lane : (f : Flights) (s d : Node) (k : ℕ) → lane f s d ≡ [] → None ≡ in_flight (net_of f) s d k
flown-no_lane f s d k e = flown-none f s d k [] (sym e) refl

pub ready-some : (f : Flights) (s d : Node) (k : ℕ) (l : Lane) (h : Held) → l ≡ lane f s d → Some h ≡ get_or l k None
    → h.ready ≡ is_ready f s d k
unfolding is_ready is_marked
ready-some f s d k l h e g = ap is_marked (g ∙ ap (λ m. get_or m k None) e)

pub ready-none : (f : Flights) (s d : Node) (k : ℕ) (l : Lane) → l ≡ lane f s d → None ≡ get_or l k None → false ≡ is_ready f s d k
unfolding is_ready is_marked
ready-none f s d k l e g = ap is_marked (g ∙ ap (λ m. get_or m k None) e)

pub ready-no_lane : (f : Flights) (s d : Node) (k : ℕ) → lane f s d ≡ [] → false ≡ is_ready f s d k
ready-no_lane f s d k e = ready-none f s d k [] (sym e) refl

waits : (o : Option Held) → is_waiting o ≡ is_some (message o)
unfolding is_waiting message
waits None = refl
waits (Some h) = refl

pub waiting-numbers : (f : Flights) (s d : Node) (l : Lane) → l ≡ lane f s d
    → numbers_of is_waiting l ≡ those (λ k. is_some (in_flight (net_of f) s d k)) (length (net_of f s d))
unfolding numbers_of
waiting-numbers f s d l e =
    ap (numbers_of is_waiting) e
    ∙ (those-same (λ k. is_waiting (get_or (lane f s d) k None)) (λ k. is_some (in_flight (net_of f) s d k)) (length (lane f s d))
    (λ k h. waits (get_or (lane f s d) k None) ∙ ap is_some (sym (in-flight f s d k)))
    ∙ ap (those (λ k. is_some (in_flight (net_of f) s d k))) (sym (net-length f s d)))

pub waiting-no_lane : (f : Flights) (s d : Node) → lane f s d ≡ []
    → those (λ k. is_some (in_flight (net_of f) s d k)) (length (net_of f s d)) ≡ []
unfolding those
waiting-no_lane f s d e = ap (those (λ k. is_some (in_flight (net_of f) s d k))) (net-none f s d e)

-- only a message in flight is marked
flies : (o : Option Held) → is_marked o ≡ true → is_some (message o) ≡ true
unfolding is_marked message
flies None e = absurd (cc)
flies (Some h) e = refl

pub marked-flies : (f : Flights) (s d : Node) (k : ℕ) → is_ready f s d k ≡ true → is_some (in_flight (net_of f) s d k) ≡ true
unfolding is_ready
marked-flies f s d k e = ap is_some (in-flight f s d k) ∙ flies (get_or (lane f s d) k None) e

pub absent-unready : (f : Flights) (s d : Node) (k : ℕ) → in_flight (net_of f) s d k ≡ None → is_ready f s d k ≡ false
absent-unready f s d k none = ⊎_elim
    (λ on. absurd (false≢true (sym (ap is_some none) ∙ marked-flies f s d k on)))
    (λ off. off) (cases_Bool (is_ready f s d k))

-- what is in flight has a link
pub flies-linked : (f : Flights) (s d : Node) (k : ℕ) (m : Msg) → in_flight (net_of f) s d k ≡ Some m → is_link f.cores f.dirs s d ≡ true
unfolding lane
flies-linked f s d k m fly = ⊎_elim
    (λ yes. yes)
    (λ off. absurd (none≢some m (flown-no_lane f s d k (ap (lane_at f.lanes) (place-none f.cores f.dirs s d off)) ∙ fly)))
    (cases_Bool (is_link f.cores f.dirs s d))
  where
    none≢some : (m : Msg) → None ≡ Some m → ⊥
    none≢some m e = cc
