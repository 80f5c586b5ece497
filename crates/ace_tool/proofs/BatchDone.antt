-- What a batch leaves, put together.
use Rattle.std.proofs.Common.{◌≡◌, ◌+◌, ◌-◌, ◌++◌, ℕ, length, Bool, true, false, List, [], ◌∷◌, Option, None, Some, codes, refl, ap, sym, ◌∙◌, subst, inr, if◌then◌else◌}
use Rattle.std.proofs.lemmas.List.{length-map, map-append}
use Rattle.std.specs.Borrow.{Bor}
use Rattle.std.specs.Io.KnownBytes.{Appends}
use Rattle.ace_batch.specs.Counts.{status_of_all}
use Rattle.ace_batch.specs.Json.{results_json}
use Rattle.ace_batch.specs.Junit.{junit_text}
use Rattle.ace_batch.specs.Looked.{AreLookedAt}
use Rattle.ace_batch.specs.Shards.{if_in, is_in, part_from, part_of}
use Rattle.ace_batch.specs.Summaries.{told_text}
use Rattle.ace_batch.specs.declared.entry.Entry.{Entry}
use Rattle.ace_paths.specs.Lists.{paths_of, texts_of}
use Rattle.ace_tool.specs.Asked.{Options, is_input}
use Rattle.ace_tool.specs.Batch.{AreResults, Batches, IsDone, Log, TellsTexts, WritesBoth, WritesIf}
use Rattle.ace_tool.specs.BatchAsked.{BatchAsked}
use Rattle.ace_tool.specs.Held.{Held, told_of}
use Rattle.ace_tool.specs.ListTexts.{IsListText, IsTextOfList}
use Rattle.ace_tool.specs.Listed.{IsListed, IsListedBy}
use Rattle.ace_tool.specs.Results.{IsResult}
use Rattle.ace_tool.proofs.LookedSteps.{through}

pub writes_both : (asked : BatchAsked) (json junit : List ℕ) (written between written' : Log) → WritesIf asked.extras.json json written between
    → WritesIf asked.extras.junit junit between written' → WritesBoth asked json junit written written'
writes_both asked json junit written between written' first second = (between, first, second)

-- the texts of a part are the part of the texts
text_in : (b : Bool) (x : Bor (List ℕ)) → texts_of (if b then x ∷ [] else []) ≡ (if b then x.now ∷ [] else [])
text_in true x = refl
text_in false x = refl

part_texts : (part parts place : ℕ) (xs : List (Bor (List ℕ))) → texts_of (part_from part parts place xs) ≡ part_from part parts place (texts_of xs)
part_texts part parts place [] = refl
part_texts part parts place (x ∷ xs) =
    map-append (λ word. word.now) (if_in part parts place x) (part_from part parts (place + 1) xs)
    ∙ ap (λ t. t ++ texts_of (part_from part parts (place + 1) xs)) (text_in (is_in part parts place) x)
    ∙ ap (λ t. if_in part parts place x.now ++ t) (part_texts part parts (place + 1) xs)

pub results_by_texts : (options : Options) (knows : List ℕ → Held) (fast : Bool) (part parts : ℕ) (all paths : List (Bor (List ℕ))) (texts : List (List ℕ))
    (entries : List Entry) → paths ≡ part_of part parts all → texts_of all ≡ texts
    → AreLookedAt fast (λ path e. IsResult options knows path.now e) paths entries
    → AreLookedAt fast (λ path e. IsResult options knows path e) (part_of part parts texts) entries
results_by_texts options knows fast part parts all paths texts entries is same looked =
    subst (λ l. AreLookedAt fast (λ path e. IsResult options knows path e) l entries)
    (ap texts_of is ∙ part_texts part parts 0 all ∙ ap (part_of part parts) same)
    (through (λ (w : Bor (List ℕ)). w.now) fast (λ path e. IsResult options knows path e) paths entries looked)

-- they are as many
pub count_by_texts : (part parts : ℕ) (all paths : List (Bor (List ℕ))) (texts : List (List ℕ)) → paths ≡ part_of part parts all → texts_of all ≡ texts
    → length paths ≡ length (part_of part parts texts)
count_by_texts part parts all paths texts is same =
    sym (length-map paths (λ w. w.now)) ∙ ap length (ap texts_of is ∙ part_texts part parts 0 all ∙ ap (part_of part parts) same)

-- the list is that of the text
listed_by : (b : Bool) (told input : Option (List ℕ)) (text : List ℕ) → IsListText b told input text → IsListedBy b told input (paths_of text)
listed_by true told None text is = tt
listed_by true told (Some bytes) text is = ap paths_of (sym is)
listed_by false None input text is = tt
listed_by false (Some bytes) input text is = ap paths_of (sym is)

listed : (holds : List ℕ → Held) (list input : Option (List ℕ)) (text : List ℕ) → IsTextOfList holds list input text → IsListed holds list input (paths_of text)
listed holds None input text is = ap paths_of is
listed holds (Some name) input text is = listed_by (is_input name) (told_of (holds name)) input text is

pub are_results : (asked : BatchAsked) (holds knows : List ℕ → Held) (input : Option (List ℕ)) (text : List ℕ) (entries : List Entry) (left : ℕ)
    → IsTextOfList holds asked.extras.list input text
    → AreLookedAt asked.extras.fail_fast (λ path e. IsResult asked.options knows path e)
    (part_of asked.extras.part asked.extras.parts (asked.traces ++ paths_of text)) entries
    → left ≡ length (part_of asked.extras.part asked.extras.parts (asked.traces ++ paths_of text)) - length entries
    → AreResults asked holds knows input entries left
are_results asked holds knows input text entries left is looked others = record {
  paths = part_of asked.extras.part asked.extras.parts (asked.traces ++ paths_of text);
  asked_for = record { listed = paths_of text; list = listed holds asked.extras.list input text is; part = refl };
  right = looked;
  others = others;
}

pub is_done : (holds knows : List ℕ → Held) (asked : BatchAsked) (input out out' : Option (List ℕ)) (written written' : Log) (status : ℕ)
    (entries : List Entry) (left : ℕ) (told json junit : List ℕ) → AreResults asked holds knows input entries left
    → told ≡ told_text asked.extras.failed left entries → json ≡ results_json asked.extras.part asked.extras.parts left entries
    → junit ≡ junit_text entries
    → TellsTexts asked told json junit out out' written written' → status ≡ status_of_all entries
    → IsDone holds knows asked input out out' written written' status
is_done holds knows asked input out out' written written' status entries left told json junit results one two three tells total = record {
  entries = entries;
  left = left;
  results = results;
  told = subst (λ t. TellsTexts asked t (results_json asked.extras.part asked.extras.parts left entries) (junit_text entries) out out' written written') one
      (subst (λ t. TellsTexts asked told t (junit_text entries) out out' written written') two
      (subst (λ t. TellsTexts asked told json t out out' written written') three tells));
  total = total;
}

pub no_memory_for_words : (holds knows : List ℕ → Held) (words : List (List ℕ)) (input out out' notes notes' : Option (List ℕ))
    (written written' : Log) (status : ℕ) → status ≡ 7 → Appends notes notes' (codes "out of memory\n")
    → Batches holds knows words input out out' notes notes' written written' status
no_memory_for_words holds knows words input out out' notes notes' written written' status is told = inr (inr (inr (is, told)))
