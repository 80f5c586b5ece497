-- How a trace is spelt: as lines of text, or as a header of ten bytes and a record for each event.
pub data Form : Type 0 where
  Text : Form
  Binary : Form
