mod Keys
mod Origins
