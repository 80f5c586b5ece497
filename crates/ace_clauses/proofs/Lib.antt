-- Tests of several parts, and their parts.
pub mod Parts
-- Each rule is the conjunction of its clauses.
pub mod AddressParts
pub mod SnoopParts
pub mod ReadParts
pub mod WriteParts
pub mod CacheParts
pub mod OrderParts
-- What follows of all rules.
pub mod Law
