-- The transaction whose acknowledge is due at an ACE port.
use Rattle.std.proofs.Common.{◌≡◌, ◌≢◌, ℕ, Bool, true, false, ◌&&◌, ◌==◌, if◌then◌else◌, [], Option, Some, None, unwrap_or, le_refl, inl, inr, refl, sym, ap, ◌∙◌}
use Rattle.std.specs.Option.{option_map}
use Rattle.std.proofs.lemmas.Bool.{and_parts, cases_Bool}
use Rattle.ace_codes.specs.Reads.{ar_kind_of}
use Rattle.ace_codes.specs.declared.kind.ArKind.{ArKind}
use Rattle.ace_codes.specs.declared.kind.AwKind.{AwKind}
use Rattle.ace_codes.specs.Responses.{is_shared, low_bits, passes_dirty}
use Rattle.ace_event.specs.declared.event.Channel.TheVariants.{Read}
use Rattle.ace_event.specs.declared.header.Header.{Header}
use Rattle.ace_tables.specs.EndStates.{end_states_of_read, end_states_of_write}
use Rattle.ace_model.specs.declared.transactions.Transaction.{Transaction}
use Rattle.ace_model.specs.Accepted.{IsAccepted}
use Rattle.ace_model.specs.Exclusives.{has_failed}
use Rattle.ace_model.specs.Kinds.{is_clean_unique}
use Rattle.ace_model.specs.ReadRules.{held_of}
use Rattle.ace_model.specs.Trace.{Trace, is_some_and}
use Rattle.ace_model.specs.Transactions.{acknowledged, acknowledgements, first_resp, is_ace, is_complete, is_exclusive_store, is_read, outstanding, read_kind, transfers, write_kind}
use Rattle.ace_model.proofs.Outstanding.Waiting.{waits_is}
use Rattle.ace_model.proofs.Trace.Issued.{transaction_of-name}
use Rattle.ace_model.proofs.Trace.Looks.{is_read-is, read_writes_none}
use Rattle.ace_model.proofs.Trace.Outstanding.{acknowledged_is}
use Rattle.ace_model.proofs.Trace.Transfers.{full_some}
use Rattle.ace_model.proofs.Values.FullReads.{done_read}
use Rattle.ace_runs.specs.MasterSteps.{end_states, is_told_dirty, is_told_shared}
use Rattle.ace_portck.specs.declared.target.Progress.{Progress}
use Rattle.ace_master_laws.proofs.Acknowledges.Due as law
use Rattle.ace_master.specs.Acknowledging.{IsDue}
use Rattle.ace_master.proofs.AcePorts.Refusals.{told-by-response}

-- an exclusive store is a read
pub exclusive-read : (x : Transaction) → is_exclusive_store x ≡ true → is_read x.chan ≡ true
exclusive-read x t = by (is_read x.chan) (and_parts x.lock (is_some_and (read_kind x) is_clean_unique) t).1
  where
    by : (r : Bool) → is_some_and (if r then ar_kind_of x.snoop x.dom x.bar else None) is_clean_unique ≡ true → r ≡ true
    by true k = refl
    by false k = cc

module _ (h : Header) (past : Trace) (p : ℕ) (d : Progress) (a : IsAccepted h past) (ace : is_ace h p ≡ true) (s : IsDue h past p d) where
  abbrev x : Transaction
  x = d.transaction

  next : acknowledged past p s.chan ≡ Some x
  next = sym (ap (λ b. if b then acknowledged past p s.chan else None) ace) ∙ s.is

  pub due-so : law.IsDue h past p s.chan x
  due-so = law.due-is h past p s.chan x a ace next

  pub due-port : x.port ≡ p
  due-port = due-so.port

  -- it has had its last R or its B
  pub due-complete : is_complete past p s.chan x.id ≡ true
  due-complete =
      let n = acknowledged_is past p s.chan x next in
      let w = waits_is h past p s.chan (acknowledgements past p s.chan) n.id a ace (le_refl (acknowledgements past p s.chan)) n.next in
      ap (is_complete past p s.chan) (transaction_of-name past p s.chan n.id x n.named).id ∙ w.2

  -- its response says whether it is an exclusive store that failed
  pub due-failed : (is_exclusive_store x && (low_bits d.response == 0)) ≡ has_failed past x
  due-failed =
      elim (cases_Bool (is_exclusive_store x)) [
        | inr none ↦ rw none refl
        | inl t ↦
            let reads = exclusive-read x t in
            let chan : s.chan ≡ Read = sym due-so.chan ∙ is_read-is x.chan reads in
            let out : outstanding h past p Read x.id ≡ Some x = ap (λ c. outstanding h past p c x.id) (sym chan) ∙ due-so.waits in
            let complete : is_complete past p Read x.id ≡ true = ap (λ c. is_complete past p c x.id) (sym chan) ∙ due-complete in
            let some : transfers past p x.id ≢ 0 = full_some past p x.id x (done_read h past a p x.id x out complete) in
            let response : d.response ≡ unwrap_or (first_resp past p x.id) 0 =
            ap (λ (v : Progress). v.response) s.progress ∙ ap (λ b. if b then unwrap_or (first_resp past x.port x.id) 0 else 0) reads
            ∙ ap (λ q. unwrap_or (first_resp past q x.id) 0) due-port in
            ap (λ b. b && (low_bits d.response == 0)) t ∙ ap (λ n. low_bits n == 0) response ∙ sym (told-by-response p x.id x t h past a out some)
      ]

  -- ---- the states in which it may end ----------------------------------------------------------------

  response-is : is_read x.chan ≡ true → d.response ≡ unwrap_or (first_resp past x.port x.id) 0
  response-is reads = ap (λ (v : Progress). v.response) s.progress ∙ ap (λ b. if b then unwrap_or (first_resp past x.port x.id) 0 else 0) reads

  told-as : (test : ℕ → Bool) → test 0 ≡ false → is_read x.chan ≡ true → is_some_and (first_resp past x.port x.id) test ≡ test d.response
  told-as test none reads = by (first_resp past x.port x.id) ∙ sym (ap test (response-is reads))
    where
      by : (o : Option ℕ) → is_some_and o test ≡ test (unwrap_or o 0)
      by None = sym none
      by (Some r) = refl

  pub read-ends : (k : ArKind) → read_kind x ≡ Some k → end_states h past x ≡ end_states_of_read k (held_of h past x) (is_shared d.response) (passes_dirty d.response) (has_failed past x)
  read-ends k is =
      let reads = (read_writes_none x k is).1 in
      ap (λ o. unwrap_or (option_map (λ k. end_states_of_read k (held_of h past x) (is_told_shared past x) (is_told_dirty past x) (has_failed past x)) o)
      (unwrap_or (option_map (λ k. end_states_of_write k (held_of h past x)) (write_kind x)) [])) is
      ∙ ap (λ b. end_states_of_read k (held_of h past x) b (is_told_dirty past x) (has_failed past x)) (told-as is_shared refl reads)
      ∙ ap (λ b. end_states_of_read k (held_of h past x) (is_shared d.response) b (has_failed past x)) (told-as passes_dirty refl reads)

  pub write-ends : (k : AwKind) → read_kind x ≡ None → write_kind x ≡ Some k → end_states h past x ≡ end_states_of_write k (held_of h past x)
  write-ends k none is =
      ap (λ o. unwrap_or (option_map (λ k. end_states_of_read k (held_of h past x) (is_told_shared past x) (is_told_dirty past x) (has_failed past x)) o)
      (unwrap_or (option_map (λ k. end_states_of_write k (held_of h past x)) (write_kind x)) [])) none
      ∙ ap (λ o. unwrap_or (option_map (λ k. end_states_of_write k (held_of h past x)) o) []) is
