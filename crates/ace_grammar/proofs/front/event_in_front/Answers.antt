use Rattle.std.proofs.Common.{rules}
use Rattle.ace_grammar.proofs.Fronts.FirstLetters.{behind_a, behind_b, behind_c, behind_d, behind_g, behind_l, behind_m, behind_o, behind_r, behind_s, behind_w}
use Rattle.ace_grammar.proofs.front.event_in_front.Goals as goal

pub returns-in_ok-a_in_front-in-65-clause-taken : goal.returns-in_ok-a_in_front-in-65-clause-taken
returns-in_ok-a_in_front-in-65-clause-taken g c =
    let taken = c.in_ok-a_in_front-in-65.ensures.taken in (taken.0, behind_a _ _ _ (search rules) taken.1, taken.2)

pub returns-in_ok-b_in_front-in-66-clause-taken : goal.returns-in_ok-b_in_front-in-66-clause-taken
returns-in_ok-b_in_front-in-66-clause-taken g c =
    let taken = c.in_ok-b_in_front-in-66.ensures.taken in (taken.0, behind_b _ _ _ (search rules) taken.1, taken.2)

pub returns-in_ok-c_in_front-in-67-clause-taken : goal.returns-in_ok-c_in_front-in-67-clause-taken
returns-in_ok-c_in_front-in-67-clause-taken g c =
    let taken = c.in_ok-c_in_front-in-67.ensures.taken in (taken.0, behind_c _ _ _ (search rules) taken.1, taken.2)

pub returns-in_ok-d_in_front-in-68-clause-taken : goal.returns-in_ok-d_in_front-in-68-clause-taken
returns-in_ok-d_in_front-in-68-clause-taken g c =
    let taken = c.in_ok-d_in_front-in-68.ensures.taken in (taken.0, behind_d _ _ _ (search rules) taken.1, taken.2)

pub returns-in_ok-g_in_front-in-71-clause-taken : goal.returns-in_ok-g_in_front-in-71-clause-taken
returns-in_ok-g_in_front-in-71-clause-taken g c =
    let taken = c.in_ok-g_in_front-in-71.ensures.taken in (taken.0, behind_g _ _ _ (search rules) taken.1, taken.2)

pub returns-in_ok-l_in_front-in-76-clause-taken : goal.returns-in_ok-l_in_front-in-76-clause-taken
returns-in_ok-l_in_front-in-76-clause-taken g c =
    let taken = c.in_ok-l_in_front-in-76.ensures.taken in (taken.0, behind_l _ _ _ (search rules) taken.1, taken.2)

pub returns-in_ok-m_in_front-in-77-clause-taken : goal.returns-in_ok-m_in_front-in-77-clause-taken
returns-in_ok-m_in_front-in-77-clause-taken g c =
    let taken = c.in_ok-m_in_front-in-77.ensures.taken in (taken.0, behind_m _ _ _ (search rules) taken.1, taken.2)

pub returns-in_ok-o_in_front-in-79-clause-taken : goal.returns-in_ok-o_in_front-in-79-clause-taken
returns-in_ok-o_in_front-in-79-clause-taken g c =
    let taken = c.in_ok-o_in_front-in-79.ensures.taken in (taken.0, behind_o _ _ _ (search rules) taken.1, taken.2)

pub returns-in_ok-r_in_front-in-82-clause-taken : goal.returns-in_ok-r_in_front-in-82-clause-taken
returns-in_ok-r_in_front-in-82-clause-taken g c =
    let taken = c.in_ok-r_in_front-in-82.ensures.taken in (taken.0, behind_r _ _ _ (search rules) taken.1, taken.2)

pub returns-in_ok-s_in_front-in-83-clause-taken : goal.returns-in_ok-s_in_front-in-83-clause-taken
returns-in_ok-s_in_front-in-83-clause-taken g c =
    let taken = c.in_ok-s_in_front-in-83.ensures.taken in (taken.0, behind_s _ _ _ (search rules) taken.1, taken.2)

pub returns-in_ok-w_in_front-in-87-clause-taken : goal.returns-in_ok-w_in_front-in-87-clause-taken
returns-in_ok-w_in_front-in-87-clause-taken g c =
    let taken = c.in_ok-w_in_front-in-87.ensures.taken in (taken.0, behind_w _ _ _ (search rules) taken.1, taken.2)
