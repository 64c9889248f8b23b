-- `print_listing` meets its contract: what is read and not judged changes nothing, and what is written is the whole text. Assumes nothing.
use Rattle.std.proofs.Common.{arith, OnOk, IfSome, None, Some, Ok, Err, Result, ◌≡◌, ℕ, ◌<◌, ◌≤◌, length, List, [], ◌++◌, take, drop, sym, ap, ◌∙◌, append-nil, length-take-le, subst, inl, inr}
use Rattle.std.specs.declared.option.Option.{Option}
use Rattle.std.proofs.lemmas.Bool.{cases_lt}
use Rattle.std.specs.Io.KnownBytes.{Appends, Consumes, IsAtEnd}
use Rattle.listing.specs.Listing.{listing, printed, printed_over}
use lib.Seq.{take-append-le, take-append_seam}
use mathlib.Core.Logic.{◌⊎◌}
use Rattle.squeeze_list.proofs.print_listing.Goals as goal

judged_alike : (bs ys : List ℕ) → (length bs < 8192 → ys ≡ []) → (length bs < 8192) ⊎ (8192 ≤ length bs) → take 4096 (bs ++ ys) ≡ take 4096 bs
judged_alike bs ys end (inl few) = ap (λ l. take 4096 (bs ++ l)) (end few) ∙ ap (take 4096) (append-nil bs)
judged_alike bs ys end (inr many) = take-append-le 4096 bs ys (omega arith)

-- of an input of which `bs` were read, and no byte is left unless the room is full
printed_alike : (old new : Option (List ℕ)) (bs : List ℕ) → Consumes old new bs → (length bs < 8192 → IsAtEnd new) → IfSome old (λ bytes. printed bs ≡ printed bytes)
unfolding printed
printed_alike None new bs taken end = tt
printed_alike (Some xs) None bs taken end = absurd taken
printed_alike (Some xs) (Some ys) bs taken end = ap listing (sym (ap (take 4096) taken ∙ judged_alike bs ys end (cases_lt (length bs) 8192)))

whole_text : (input text : List ℕ) → take (length (printed input)) (printed_over input text) ≡ printed input
unfolding printed_over
whole_text input text = take-append_seam (printed input) (drop (length (printed input)) text)

written : {T E : Type 0} (result : Result T E) (from old new : Option (List ℕ)) (text input : List ℕ) → OnOk result (Appends old new text) → text ≡ printed input
    → IfSome from (λ bytes. printed input ≡ printed bytes) → OnOk result (IfSome from (λ bytes. Appends old new (printed bytes)))
written (Err e) from old new text input w t same = w
written (Ok v) None old new text input w t same = tt
written (Ok v) (Some bytes) old new text input w t same = subst (Appends old new) (t ∙ same) w

pub returns : goal.returns
returns g c =
    let count = c.in_ok-count.count in
    let bytes = take count c.read_full.new.room in
    let few : length bytes ≡ count = length-take-le count c.read_full.new.room c.in_ok-count.ensures.room in
    let input = printed_alike _ _ bytes c.in_ok-count.ensures.bytes (λ e. c.in_ok-count.ensures.end (omega arith)) in
    let length-of = c.list_input-length.ensures.value.0 in
    let over = c.list_input-length.ensures.value.1 in
    let text = ap (λ n. take n c.list_input-length.new.text) length-of ∙ ap (take (length (printed bytes))) over ∙ whole_text bytes _ in
    written c.write_all.result _ _ _ _ bytes c.write_all.ensures.bytes text input
