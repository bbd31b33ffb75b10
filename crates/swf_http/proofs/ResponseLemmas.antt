-- From heads and a body to a response.
use Rattle.std.proofs.Common.{◌≡◌, ◌-◌, ◌<◌, sym, subst, refl, ℕ, suc, Bool, List, length, take, drop, inl, inr, arith, ◌+◌, ◌≤◌, length-drop, drop-drop, Option}
use Rattle.httparse.specs.Grammar.{ResponseHead, print_response}
use Rattle.httparse.specs.Spans.{IsResponseAt}
use Rattle.http1.specs.declared.framing.Framing.{Framing}
use Rattle.swf_http.specs.declared.fault.HttpFault.{HttpFault}
use Rattle.swf_http.specs.declared.fault.HttpFault.TheVariants.{Read, Ended, TooLong, BadMessage, OutOfMemory}
use Rattle.swf_http.specs.declared.follow.Follow.{Follow}
use Rattle.swf_http.specs.declared.follow.Follow.TheVariants.{Interim}
use Rattle.swf_http.specs.Following.{follow_of}
use Rattle.swf_http.specs.Limits.{most_head}
use Rattle.swf_http.specs.Pieces.{response_form, SaysPiece}
use Rattle.swf_http.specs.Responses.{Framed, Follows, SaysHead, SaysBody, SaysResponse}
use Rattle.swf_http.specs.Verdicts.{Verdict, whole, FaultSays}
use Rattle.swf_http.specs.declared.found.FoundResponse.{FoundResponse}
use Rattle.swf_http.specs.Sources.{Splits}
use Rattle.swf_http.proofs.CountLemmas.{response_length}
use Rattle.swf_http.proofs.ReadLemmas.{splits_behind, slice_is, says_response}
use Rattle.swf_http.proofs.ThroughLemmas.{fault_through}

pub head_stops : (head : Bool) (room : ℕ) (y : List ℕ) (e : HttpFault) → FaultSays (SaysPiece response_form room) y e → FaultSays (SaysHead head room) y e
head_stops head room y Read f = tt
head_stops head room y Ended f = (0, inr f)
head_stops head room y TooLong f = (0, inr f)
head_stops head room y BadMessage f = (0, inr f)
head_stops head room y OutOfMemory f = tt

-- a head behind which none follows
pub head_last : (head : Bool) (room : ℕ) (y rest : List ℕ) (h : ResponseHead) (f : Follow) (v : Verdict Framed) → SaysPiece response_form room y (whole h rest)
    → f ≡ follow_of head h → Follows f h rest v → SaysHead head room y v
head_last head room y rest h f v says same follows = (0, inl (h, rest, says, subst (λ (g : Follow). Follows g h rest v) same follows))

-- a head that is read past
pub head_more : (head : Bool) (room left_room : ℕ) (y rest : List ℕ) (h : ResponseHead) (v : Verdict Framed) → SaysPiece response_form room y (whole h rest)
    → Interim ≡ follow_of head h → left_room ≡ room - length (print_response h) → SaysHead head left_room rest v → SaysHead head room y v
head_more head room left_room y rest h v says same room_is on =
    let more : SaysHead head (room - length (print_response h)) rest v = subst (λ (k : ℕ). SaysHead head k rest v) room_is on in
    (suc more.0, (h, rest, says, sym same, more.1))

pub body_stops : (head : Bool) (y mid : List ℕ) (h : ResponseHead) (framing : Framing) (e : HttpFault) → SaysHead head most_head y (whole (h, framing) mid)
    → FaultSays (SaysBody framing) mid e → FaultSays (SaysResponse head) y e
body_stops head y mid h framing e says f =
    fault_through (SaysBody framing) (SaysResponse head) mid y (λ s. inl ((h, framing), mid, says, inr s)) (λ s. inl ((h, framing), mid, says, inr s))
    (λ s. inl ((h, framing), mid, says, inr s)) e f

pub says_whole_response : (head : Bool) (y mid body rest : List ℕ) (h : ResponseHead) (framing : Framing) → SaysHead head most_head y (whole (h, framing) mid)
    → SaysBody framing mid (whole body rest) → SaysResponse head y (whole (h, body) rest)
says_whole_response head y mid body rest h framing says body_says = inl ((h, framing), mid, says, inl (body, rest, body_says, refl))

-- the head that was found at a place is that of all bytes
pub head_read : (x items : List ℕ) (left : Option (List ℕ)) (at most : ℕ) (found : FoundResponse) (h : ResponseHead) → Splits x items left
    → IsResponseAt (drop at items) found.headers.items found.spans h → found.spans.len ≤ length (drop at items) → at ≤ length items → length items ≤ most
    → SaysPiece response_form (most - at) (drop at x) (whole h (drop (at + found.spans.len) x))
head_read x items left at most found h s is fits within room =
    let says = says_response (most - at) (drop at x) (drop at items) left found h (splits_behind x items left at s within) is fits
    (omega (arith, length-drop at items, room)) in
    subst (λ (t : List ℕ). SaysPiece response_form (most - at) (drop at x) (whole h t)) (drop-drop found.spans.len at x) says

-- the same in the slice that the buffer's bytes are
pub at_slice : (at : ℕ) (slice items : List ℕ) (found : FoundResponse) (h : ResponseHead) → slice ≡ items
    → IsResponseAt (drop at items) found.headers.items found.spans h
    → IsResponseAt (take (length slice - at) (drop at slice)) found.headers.items found.spans h
at_slice at slice items found h same is =
    subst (λ (t : List ℕ). IsResponseAt t found.headers.items found.spans h) (sym (slice_is at slice items same)) is

-- a head that was found has some bytes, all of them in the buffer
pub head_fits : (at most : ℕ) (items : List ℕ) (found : FoundResponse) (h : ResponseHead) → IsResponseAt (drop at items) found.headers.items found.spans h
    → found.spans.len ≤ length (drop at items) → at ≤ length items → length items ≤ most
    → (0 < found.spans.len) × (at + found.spans.len ≤ length items) × (most - (at + found.spans.len) ≡ most - at - length (print_response h))
head_fits at most items found h is fits within room =
    let some = response_length h is.reads.0.fields in
    (omega (arith, is.len, some), omega (arith, length-drop at items, fits, within), omega (arith, is.len))
