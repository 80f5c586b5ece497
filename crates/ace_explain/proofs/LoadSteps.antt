-- The last exclusive loads of the ports, before any event.
use Rattle.std.proofs.Common.{◌≡◌, ℕ, zero, suc, [], Option, None, get_or, replicate, refl, sym, subst}
use Rattle.ace_explain.specs.LastLoads.{LoadStands, LoadsStand}
use Rattle.ace_explain.specs.declared.last_loads.LastLoad.{LastLoad}
use Rattle.ace_explain.specs.declared.last_loads.LastLoads.{LastLoads}

abbrev no_load : Option LastLoad
no_load = None

repeated : (n p : ℕ) → get_or (replicate n no_load) p no_load ≡ no_load
repeated zero p = refl
repeated (suc n) zero = refl
repeated (suc n) (suc p) = repeated n p

-- no port has made one
pub none-loaded : (s : LastLoads) → s.ports ≡ replicate 32 None → LoadsStand [] s
none-loaded s is = record {
  size = rw is refl;
  ports = λ p low. rw is (subst (LoadStands [] p) (sym (repeated 32 p)) (record { line = refl; stored = λ w made. cc }));
}
