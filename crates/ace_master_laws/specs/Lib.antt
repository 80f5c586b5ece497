-- What a port keeps that goes by steps.
pub mod Orderly
-- What the choices that a step leaves to a master have to meet.
pub mod Chosen
