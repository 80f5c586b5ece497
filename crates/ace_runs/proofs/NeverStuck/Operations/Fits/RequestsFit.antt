-- What an operation asks for that can't end fits.
use Rattle.std.proofs.Common.{ℕ, refl, inl, inr}
use Rattle.ace_model.specs.declared.plans.Op.{Op}
use Rattle.ace_model.specs.declared.plans.Op.TheVariants.{Ld, Ldx, St, Stx, Fill, Pf, Wb, Wc, Ev, We, Ro, Cs, Ci, Mi, Rn, Wu, Wlu, Wn, Mb, Sb, Dvm, Sync, Dvm2}
use Rattle.ace_model.specs.Plans.{Plan}
use Rattle.ace_model.specs.Trace.{Trace}
use Rattle.ace_runs.specs.Closing.{state_named}
use Rattle.ace_runs.specs.Requests.{request_of}
use Rattle.ace_runs.proofs.NeverStuck.Operations.Fits.Asking.{IsAsking, IsFit}
use Rattle.ace_runs.proofs.NeverStuck.Operations.Fits.Fetching.{exclusive-load-fits, load-fits, read-ahead-fits}
use Rattle.ace_runs.proofs.NeverStuck.Operations.Fits.GivingUp.{clean-invalid-fits, clean-shared-fits, evict-fits, make-invalid-fits, read-once-fits, write-back-fits, write-clean-fits, write-evict-fits, write-line-unique-fits, write-unique-fits}
use Rattle.ace_runs.proofs.NeverStuck.Operations.Fits.Ordering.{message-fits, messages-fit, sync-fits}
use Rattle.ace_runs.proofs.NeverStuck.Operations.Fits.Storing.{exclusive-store-fits, fill-fits, store-fits}
use Rattle.ace_runs.proofs.NeverStuck.Operations.Fits.Unsnooped.{read-no-snoop-fits, write-no-snoop-fits}

pub request-fits : (plan : Plan) (past : Trace) (p : ℕ) (op : Op) → IsAsking plan past p op → IsFit plan.header past p (request_of op (state_named plan.header past p op))
request-fits plan past p (Ld a w) q = load-fits plan past p a w q
request-fits plan past p (Ldx a w) q = exclusive-load-fits plan past p a w q
request-fits plan past p (St a w word) q = store-fits plan past p a w word q
request-fits plan past p (Stx a w word) q = inl (exclusive-store-fits plan past p a w word q)
request-fits plan past p (Fill a line) q = fill-fits plan past p a line q
request-fits plan past p (Pf a k) q = read-ahead-fits plan past p a k q
request-fits plan past p (Wb a) q = write-back-fits plan past p a q
request-fits plan past p (Wc a) q = write-clean-fits plan past p a q
request-fits plan past p (Ev a) q = evict-fits plan past p a q
request-fits plan past p (We a) q = write-evict-fits plan past p a q
request-fits plan past p (Ro a) q = read-once-fits plan past p a q
request-fits plan past p (Ci a) q = clean-invalid-fits plan past p a q
request-fits plan past p (Mi a) q = make-invalid-fits plan past p a q
request-fits plan past p (Wu a strobe line) q = write-unique-fits plan past p a strobe line q
request-fits plan past p (Wlu a line) q = write-line-unique-fits plan past p a line q
request-fits plan past p (Cs a) q = clean-shared-fits plan past p a q
request-fits plan past p (Rn a) q = inl (read-no-snoop-fits plan past p a q)
request-fits plan past p (Wn a strobe line) q = write-no-snoop-fits plan past p a strobe line q
request-fits plan past p Mb q = refl
request-fits plan past p Sb q = refl
request-fits plan past p (Dvm word) q = inr (refl, refl, message-fits plan past p word q)
request-fits plan past p (Sync word) q = inr (refl, refl, sync-fits plan past p word q)
request-fits plan past p (Dvm2 word second) q = messages-fit plan past p word second q
