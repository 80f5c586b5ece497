use Rattle.std.proofs.Common.{◌∷◌, refl, arith, ◌∙◌}
use Rattle.ace_check.proofs.Steps.{accepted_sound}
use Rattle.ace_check.proofs.WhatComes.{comes-within, never-over}
use Rattle.ace_check.proofs.checker.Checker.feed.Goals as goal

-- ---- it breaks no rule ----

pub returns-in-Fine-clause-answer : goal.returns-in-Fine-clause-answer
returns-in-Fine-clause-answer c = λ most h past s.
    let t = comes-within c.hear_event.ensures c.in-Fine.is s.limit h past s.tell s.few in
    (t.0, t.1)

pub returns-in-Fine-clause-stands : goal.returns-in-Fine-clause-stands
returns-in-Fine-clause-stands c = λ most h past s few.
    let t = comes-within c.hear_event.ensures c.in-Fine.is s.limit h past s.tell s.few in
    let count = s.count in
    record {
      limit = c.hear_event.ensures.most ∙ s.limit;
      tell = t.2;
      count = omega (arith, count, few);
      few = omega (arith, few);
      broken = s.broken;
      fits = (c.every_event_fits.ensures, s.fits);
    }

pub returns-in-Fine-clause-sound : goal.returns-in-Fine-clause-sound
returns-in-Fine-clause-sound c = λ most h past s fine.
    let t = comes-within c.hear_event.ensures c.in-Fine.is s.limit h past s.tell s.few in
    accepted_sound h (c.args.event.now ∷ past) (s.tell.ports.accepted, t.0) (c.every_event_fits.ensures, s.fits)

-- ---- it breaks one ----

pub returns-in-Broken-clause-answer : goal.returns-in-Broken-clause-answer
returns-in-Broken-clause-answer c = λ most h past s.
    let t = comes-within c.hear_event.ensures c.in-Broken.is s.limit h past s.tell s.few in
    let count = s.count in
    let few = s.few in
    (omega (arith, count, few), t.0)

pub returns-in-Broken-clause-stands : goal.returns-in-Broken-clause-stands
returns-in-Broken-clause-stands c = λ most h past s few.
    let t = comes-within c.hear_event.ensures c.in-Broken.is s.limit h past s.tell s.few in
    record { limit = c.hear_event.ensures.most ∙ s.limit; tell = t.1; count = s.count; few = s.few; broken = refl; fits = s.fits }

-- ---- it isn't taken ----

pub returns-in-TooManyLines-clause-too_many : goal.returns-in-TooManyLines-clause-too_many
returns-in-TooManyLines-clause-too_many c = λ most h past s is.
    let t = comes-within c.hear_event.ensures c.in-TooManyLines.is s.limit h past s.tell s.few in
    (t.0, t.1)

pub returns-in-TooManyLines-clause-unlimited : goal.returns-in-TooManyLines-clause-unlimited
returns-in-TooManyLines-clause-unlimited c = λ h past s is.
    let t = comes-within c.hear_event.ensures c.in-TooManyLines.is s.limit h past s.tell s.few in
    never-over past c.args.event.now s.few t.1

pub returns-in-TooManyLines-clause-stays : goal.returns-in-TooManyLines-clause-stays
returns-in-TooManyLines-clause-stays c = λ most h past s.
    let t = comes-within c.hear_event.ensures c.in-TooManyLines.is s.limit h past s.tell s.few in
    record { limit = c.hear_event.ensures.most ∙ s.limit; tell = t.2; count = s.count; few = s.few; broken = s.broken; fits = s.fits }

pub returns-in-NoMemory-clause-no_memory : goal.returns-in-NoMemory-clause-no_memory
returns-in-NoMemory-clause-no_memory c = λ most h past s is.
    let t = comes-within c.hear_event.ensures c.in-NoMemory.is s.limit h past s.tell s.few in
    t.1

pub returns-in-NoMemory-clause-stays : goal.returns-in-NoMemory-clause-stays
returns-in-NoMemory-clause-stays c = λ most h past s.
    let t = comes-within c.hear_event.ensures c.in-NoMemory.is s.limit h past s.tell s.few in
    record { limit = c.hear_event.ensures.most ∙ s.limit; tell = t.2; count = s.count; few = s.few; broken = s.broken; fits = s.fits }
