-- From what stands on a link to what an exchange adds.
use Rattle.std.proofs.Common.{◌≡◌, ◌∙◌, subst, ℕ, ◌+◌, List, [], ◌++◌, Bool, Option, Some, Result, Ok, Err, inl, inr, arith}
use Rattle.swf_store.specs.Faults.{RoseOnce}
use Rattle.swf_http.specs.declared.message.Response.{Response}
use Rattle.swf_connect.specs.declared.exchange.ExchangeFault.{ExchangeFault}
use Rattle.swf_connect.specs.declared.exchange.ExchangeFault.TheVariants.{Failed, NoResponse, OutOfMemory}
use Rattle.swf_connect.specs.Exchanges.{Tells, TellsSome, TellsWhole, Asks, Exchanges, FailsBy}
use Rattle.swf_connect.specs.Talks.{About, Talk, IsFresh, HungUp, with_faults}

-- what is on a link where the whole request was written
pub whole_told : (request : List ℕ) (head : Bool) (result : Result Response ExchangeFault) (left left_now written written_now written_end : Option (List ℕ))
    → left_now ≡ left → written_end ≡ written_now
    → ((before : List ℕ) → written ≡ Some before → written_now ≡ Some (before ++ request))
    → ((bytes : List ℕ) → left_now ≡ Some bytes → Tells head bytes result)
    → TellsWhole request head result left written written_end
whole_told request head result left left_now written written_now written_end kept same wrote tells =
    λ bytes before has had. (tells bytes (kept ∙ has), same ∙ wrote before had)

-- the same where nothing is told of the bytes
pub some_told : (request : List ℕ) (written written_now written_end : Option (List ℕ)) → written_end ≡ written_now
    → ((before : List ℕ) → written ≡ Some before → written_now ≡ Some (before ++ request)) → TellsSome written written_end
some_told request written written_now written_end same wrote = λ before had. (before ++ request, same ∙ wrote before had)

pub asked : (request : List ℕ) (head : Bool) (result : Result Response ExchangeFault) (left left_now written written_now written_end : Option (List ℕ))
    → left_now ≡ left → written_end ≡ written_now
    → ((before : List ℕ) → written ≡ Some before → written_now ≡ Some (before ++ request))
    → ((bytes : List ℕ) → left_now ≡ Some bytes → Tells head bytes result)
    → Asks request head result left written written_end
asked request head (Ok r) left left_now written written_now written_end kept same wrote tells =
    whole_told request head (Ok r) left left_now written written_now written_end kept same wrote tells
asked request head (Err NoResponse) left left_now written written_now written_end kept same wrote tells =
    whole_told request head (Err NoResponse) left left_now written written_now written_end kept same wrote tells
asked request head (Err Failed) left left_now written written_now written_end kept same wrote tells =
    some_told request written written_now written_end same wrote
asked request head (Err OutOfMemory) left left_now written written_now written_end kept same wrote tells =
    some_told request written written_now written_end same wrote

-- ---- counts

pub moved : {T : Type 0} (r : Result T ExchangeFault) (a b c d : ℕ) → FailsBy r a b → a ≡ c → b ≡ d → FailsBy r c d
moved r a b c d fails start end = subst (λ (n : ℕ). FailsBy r n d) start (subst (λ (n : ℕ). FailsBy r a n) end fails)

pub rose_on : (a b c d : ℕ) → RoseOnce a b → a ≡ c → b ≡ d → RoseOnce c d
rose_on a b c d rose start end = subst (λ (n : ℕ). RoseOnce n d) start (subst (λ (n : ℕ). RoseOnce a n) end rose)

pub counted : {T : Type 0} (r : Result T ExchangeFault) (before reads writes now : ℕ) → FailsBy r 0 (reads + writes)
    → now ≡ with_faults before reads writes → FailsBy r before now
counted (Ok x) before reads writes now fails is = grind arith
counted (Err Failed) before reads writes now fails is = record { rose = grind (arith, fails.rose, fails.once, is); later = grind (arith, is); once = grind (arith, fails.rose, fails.once, is) }
counted (Err NoResponse) before reads writes now fails is = grind arith
counted (Err OutOfMemory) before reads writes now fails is = grind arith

-- ---- talks

-- one talk more of what was said on a link
pub talk_added : (host : List ℕ) (port : ℕ) (request : List ℕ) (head : Bool) (result : Result Response ExchangeFault) (old now new : Option (List Talk))
    (about about_end : Option About) (left written written_end : Option (List ℕ))
    → now ≡ old → ((before : List Talk) → old ≡ Some before → IsFresh host port about left written) → about_end ≡ about
    → Asks request head result left written written_end → HungUp about_end written_end now new
    → Exchanges host port request head result old new
talk_added host port request head (Ok response) old now new about about_end left written written_end same fresh kept asks hung = λ before told.
    let at = fresh before told in
    let got = asks at.bytes [] at.left_is at.written_is in
    record {
      bytes = at.bytes;
      tells = got.0;
      new_is = hung (record { host = host; port = port; bytes = at.bytes }) request before (kept ∙ at.about_is) got.1 (same ∙ told);
    }
talk_added host port request head (Err NoResponse) old now new about about_end left written written_end same fresh kept asks hung = λ before told.
    let at = fresh before told in
    let got = asks at.bytes [] at.left_is at.written_is in
    record {
      bytes = at.bytes;
      tells = got.0;
      new_is = hung (record { host = host; port = port; bytes = at.bytes }) request before (kept ∙ at.about_is) got.1 (same ∙ told);
    }
talk_added host port request head (Err Failed) old now new about about_end left written written_end same fresh kept asks hung = λ before told.
    let at = fresh before told in
    let got = asks [] at.written_is in
    inr (
      record { about = record { host = host; port = port; bytes = at.bytes }; written = got.0 },
      hung (record { host = host; port = port; bytes = at.bytes }) got.0 before (kept ∙ at.about_is) got.1 (same ∙ told),
    )
talk_added host port request head (Err OutOfMemory) old now new about about_end left written written_end same fresh kept asks hung = λ before told.
    let at = fresh before told in
    let got = asks [] at.written_is in
    inr (
      record { about = record { host = host; port = port; bytes = at.bytes }; written = got.0 },
      hung (record { host = host; port = port; bytes = at.bytes }) got.0 before (kept ∙ at.about_is) got.1 (same ∙ told),
    )

-- nothing is added where nobody is reached
pub not_dialed : (host : List ℕ) (port : ℕ) (request : List ℕ) (head : Bool) (old new : Option (List Talk)) → new ≡ old
    → Exchanges host port request head (Err Failed) old new
not_dialed host port request head old new same = λ before told. inl (same ∙ told)
