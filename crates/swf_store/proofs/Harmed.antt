-- Each image with one write harmed is one that a stop may leave.
use Rattle.std.proofs.Common.{◌≡◌, ℕ, zero, suc, ◌+◌, ◌-◌, ◌/◌, ◌≤◌, List, [], ◌∷◌, ◌++◌, length, take, drop, replicate, sym, ◌∙◌, ap, subst, arith}
use Rattle.std.specs.Prelude.{All}
use Rattle.std.specs.List.{AllByRecursion}
use Rattle.std.proofs.lemmas.List.{append_assoc, drop-drop, length-take, length-replicate}
use Rattle.std.proofs.lemmas.List.Elements.{All-from_recursion}
use Rattle.swf_store.specs.declared.image.Image.{Image}
use Rattle.swf_store.specs.declared.replay.Change.{Change}
use Rattle.swf_store.specs.declared.replay.Harm.{Harm}
use Rattle.swf_store.specs.declared.replay.Harm.TheVariants.{Turned, Cut, Filled}
use Rattle.swf_store.specs.Disk.{Torn, TornIn}
use Rattle.swf_store.specs.Files.{bytes_of, with_bytes}
use Rattle.swf_store.specs.Images.{harmed_by, with_harm, harmed, images_of}
use Rattle.swf_store.specs.Laws.{put_in_is_torn, and_write_is_torn, whole_is_torn}
use Rattle.swf_store.specs.Put.{put}
use Rattle.swf_store.specs.Replay.{Writing, IsTornBy, IsLeft, and_write, whole}
use Rattle.swf_store.proofs.Chain.{torn_append, whole_append}

pub with_harm_is : (synced : Image) (before : List Change) (change : Change) (after : List Change) (harm : Harm)
    → whole (and_write (whole synced before) (harmed_by harm change)) after ≡ with_harm synced before change after harm
with_harm_is synced before change after harm = sym (whole_append synced before (harmed_by harm change ∷ after))

-- the parts of a list one element on
pub one_on : (number : ℕ) (all : List Change) (x : Change) (rest : List Change) → x ∷ rest ≡ drop number all → (rest ≡ drop (number + 1) all) × (take (number + 1) all ≡ take number all ++ x ∷ [])
one_on zero [] x rest is = absurd (cc)
one_on zero (y ∷ all) x rest is =
    let first : x ≡ y = cc in
    let second : rest ≡ all = cc in
    (second, ap (λ (z : Change). z ∷ []) (sym first))
one_on (suc number) [] x rest is = absurd (cc)
one_on (suc number) (y ∷ all) x rest is =
    let further = one_on number all x rest is in
    let next : suc number + 1 ≡ suc (number + 1) = omega arith in
    (further.0 ∙ ap (λ n. drop n (y ∷ all)) (sym next), ap (λ n. take n (y ∷ all)) next ∙ ap (λ (l : List Change). y ∷ l) further.1)

-- a longer range may be torn in more ways
wider : (at m n : ℕ) (old new : List ℕ) → m ≤ n → Torn at m old new → Torn at n old new
wider at m n old new le torn = record {
  before = torn.before;
  after = further new ∙ ap (λ (l : List ℕ). drop (n - m) l) torn.after ∙ sym (further old);
  no_shorter = torn.no_shorter;
  no_longer = omega (arith, torn.no_longer);
}
  where
    further : (l : List ℕ) → drop (at + n) l ≡ drop (n - m) (drop (at + m) l)
    further l =
        let sum : at + m + (n - m) ≡ at + n = omega arith in
        ap (λ k. drop k l) (sym sum) ∙ sym (drop-drop (n - m) (at + m) l)

harm_is_torn : (old : Image) (change : Change) (harm : Harm) → TornIn change.file change.at (length change.bytes) old (and_write old (harmed_by harm change))
harm_is_torn old change Turned = and_write_is_torn old (harmed_by Turned change)
harm_is_torn old change Cut =
    let half = take (length change.bytes / 2) change.bytes in
    let cut = put_in_is_torn old change.file change.at half in
    let new = with_bytes old change.file (put (bytes_of old change.file) change.at half) in
    record {
      torn = wider change.at (length half) (length change.bytes) (bytes_of old change.file) (bytes_of new change.file) (omega (arith, length-take (length change.bytes / 2) change.bytes)) cut.torn;
      others = cut.others;
    }
harm_is_torn old change Filled =
    let fill : List ℕ = replicate (length change.bytes) 0xA5 in
    let size : length fill ≡ length change.bytes = length-replicate (length change.bytes) 0xA5 in
    subst (λ n. TornIn change.file change.at n old (with_bytes old change.file (put (bytes_of old change.file) change.at fill))) size (put_in_is_torn old change.file change.at fill)

with_harm_is_left : (synced : Image) (before : List Change) (change : Change) (after : List Change) (harm : Harm) → IsTornBy synced (before ++ change ∷ after) (with_harm synced before change after harm)
with_harm_is_left synced before change after harm =
    let first = whole synced before in
    let second = and_write first (harmed_by harm change) in
    let all = torn_append synced first (whole second after) before (change ∷ after) (whole_is_torn synced before) (second, harm_is_torn first change harm, whole_is_torn second after) in
    subst (λ i. IsTornBy synced (before ++ change ∷ after) i) (with_harm_is synced before change after harm) all

harmed_are_left : (synced : Image) (before after : List Change) → AllByRecursion (IsTornBy synced (before ++ after)) (harmed synced before after)
harmed_are_left synced before [] = tt
harmed_are_left synced before (change ∷ after) =
    let same : before ++ change ∷ [] ++ after ≡ before ++ (change ∷ after) = append_assoc before (change ∷ []) after in
    let rest = subst (λ (cs : List Change). AllByRecursion (IsTornBy synced cs) (harmed synced (before ++ change ∷ []) after)) same (harmed_are_left synced (before ++ change ∷ []) after) in
    (with_harm_is_left synced before change after Turned, (with_harm_is_left synced before change after Cut, (with_harm_is_left synced before change after Filled, rest)))

pub images_are_left : (writing : Writing) → All (IsLeft writing) (images_of writing)
images_are_left writing =
    All-from_recursion (IsLeft writing) (images_of writing) (whole_is_torn writing.synced writing.unsynced, harmed_are_left writing.synced [] writing.unsynced)
